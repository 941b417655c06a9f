-- Names compared with those before them, step by step.
use Rattle.std.proofs.Common.{◌≡◌, ◌<◌, ◌+◌, ℕ, Bool, false, List, [], ◌∷◌, ◌++◌, length, drop, take, get_or, Option, Some, None, refl, sym, ap, ◌∙◌, add-one, append-nil}
use Rattle.std.proofs.lemmas.List.{get_or_default}
use Rattle.std.specs.Borrow.{Bor}
use Rattle.sch_word.proofs.facts.Lists.{next_left, next_taken}
use Rattle.sch_names.specs.Scope.{is_among}
use Rattle.sch_names.specs.ScopeView.{given_names}
use Rattle.sch_sketch.specs.Distinct.{named, are_new}

named_more : (vs : List (Option (Bor (List ℕ)))) (v : Option (Bor (List ℕ))) → named (given_names (vs ++ v ∷ [])) ≡ named (given_names vs) ++ named (given_names (v ∷ []))
named_more [] v = refl
named_more (None ∷ vs) v = named_more vs v
named_more (Some x ∷ vs) v = ap (λ l. x.now ∷ l) (named_more vs v)

pub next_name : (vs : List (Option (Bor (List ℕ)))) (i : ℕ) (x : Bor (List ℕ)) (b : Bool) → i < length vs → get_or vs i None ≡ Some x → false ≡ is_among x.now (named (given_names (take i vs))) →
    are_new (named (given_names (take i vs))) (named (given_names (drop i vs))) ≡ b → are_new (named (given_names (take (i + 1) vs))) (named (given_names (drop (i + 1) vs))) ≡ b
next_name vs i x b l e f k =
    let h = sym e ∙ get_or_default vs i None (Some x) l in
    let k' = rw (next_left vs i (Some x) l h, sym f) at k in
    rw (add-one, next_taken vs i (Some x) l h, named_more) k'

pub next_fresh : (vs : List (Option (Bor (List ℕ)))) (i : ℕ) (b : Bool) → i < length vs → get_or vs i None ≡ None →
    are_new (named (given_names (take i vs))) (named (given_names (drop i vs))) ≡ b → are_new (named (given_names (take (i + 1) vs))) (named (given_names (drop (i + 1) vs))) ≡ b
next_fresh vs i b l e k =
    let k' = rw (next_left vs i None l (sym e)) at k in
    rw (add-one, next_taken vs i None l (sym e), named_more, append-nil) k'
