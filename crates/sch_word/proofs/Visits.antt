-- Items that are left to visit.
use Rattle.std.proofs.Common.{◌≡◌, List, [], ◌∷◌, ◌++◌, sym, ap, ◌∙◌, append_assoc}
use Rattle.std.proofs.lemmas.List.{append-nil}
use Rattle.std.specs.Borrow.{Bor}
use Rattle.sch_word.specs.ToVisit.{items_of}

pub items_of_push : {T : Type 0} (xs : List (Bor (List T))) (x : Bor (List T)) → items_of (xs ++ x ∷ []) ≡ x.now ++ items_of xs
items_of_push [] x = sym (append-nil x.now)
items_of_push (y ∷ xs) x = ap (λ l. l ++ y.now) (items_of_push xs x) ∙ append_assoc x.now (items_of xs) y.now

-- the next slice comes after an empty one
pub slice_popped : {T : Type 0} (now : List T) (behind rest : List (Bor (List T))) (x : Bor (List T)) (whole : List T) → now ≡ [] → behind ≡ rest ++ x ∷ []
    → now ++ items_of behind ≡ whole → x.now ++ items_of rest ≡ whole
slice_popped now behind rest x whole n b h = sym (items_of_push rest x) ∙ ap items_of (sym b) ∙ ap (λ l. l ++ items_of behind) (sym n) ∙ h

pub none_left : {T : Type 0} (now : List T) (behind : List (Bor (List T))) (whole : List T) → now ≡ [] → behind ≡ [] → now ++ items_of behind ≡ whole → whole ≡ []
none_left now behind whole n b h = sym h ∙ ap (λ l. l ++ items_of behind) n ∙ ap items_of b

pub item_taken : {T : Type 0} (now : List T) (behind : List (Bor (List T))) (item : T) (rest whole : List T) → now ≡ item ∷ rest → now ++ items_of behind ≡ whole
    → whole ≡ item ∷ (rest ++ items_of behind)
item_taken now behind item rest whole n h = sym h ∙ ap (λ l. l ++ items_of behind) n
