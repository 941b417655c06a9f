-- The turns of a loop over a list that makes a list with a counter, for any kinds of trees. The loop keeps
-- that what is made, and then what is left, is the whole.
use Rattle.std.proofs.Common.{◌≡◌, ℕ, suc, ◌+◌, ◌<◌, ◌≤◌, List, [], ◌∷◌, ◌++◌, length, drop, get_or, refl, ap, subst, arith, add-one}
use Rattle.std.proofs.lemmas.List.{drop_all}
use Rattle.sch_word.specs.trees.Walk.{onto}
use Rattle.sch_word.proofs.facts.Lists.{next_left as next_is}

pub onto_more : {B Q : Type 0} (cons : B → Q → Q) (bs : List B) (b : B) (rest : Q) → onto cons (bs ++ b ∷ []) rest ≡ onto cons bs (cons b rest)
onto_more cons [] b rest = refl
onto_more cons (a ∷ bs) b rest = ap (cons a) (onto_more cons bs b rest)

module _ {A : Type 0} (items : List A) (i : ℕ) where
  -- a turn: what is made of the first item that is left, and how far the counter goes on
  pub next_made : {B Q : Type 0} (cons : B → Q → Q) (F : List A → ℕ → Q) (all : List B) (a : A) (b : B) (x y : ℕ) (whole : Q) → i < length items → a ≡ get_or items i a →
      F (a ∷ drop (suc i) items) x ≡ cons b (F (drop (suc i) items) y) → onto cons all (F (drop i items) x) ≡ whole → onto cons (all ++ b ∷ []) (F (drop (i + 1) items) y) ≡ whole
  next_made cons F all a b x y whole l e h k =
      let n = next_is items i a l e in
      let k' = rw n at k in
      let k'' = rw h at k' in
      rw (add-one, onto_more cons all b (F (drop (suc i) items) y)) k''

  -- a turn, without a counter
  pub next_item : {B Q : Type 0} (cons : B → Q → Q) (F : List A → Q) (all : List B) (a : A) (b : B) (whole : Q) → i < length items → a ≡ get_or items i a →
      F (a ∷ drop (suc i) items) ≡ cons b (F (drop (suc i) items)) → onto cons all (F (drop i items)) ≡ whole → onto cons (all ++ b ∷ []) (F (drop (i + 1) items)) ≡ whole
  next_item cons F all a b whole l e h k = next_made cons (λ left _. F left) all a b 0 0 whole l e h k

  pub next_count : (G : List A → ℕ) (a : A) (x n total : ℕ) → i < length items → a ≡ get_or items i a →
      G (a ∷ drop (suc i) items) ≡ n + G (drop (suc i) items) → x + G (drop i items) ≡ total → x + n + G (drop (i + 1) items) ≡ total
  next_count G a x n total l e h k =
      let d : drop i items ≡ a ∷ drop (suc i) items = next_is items i a l e in
      let k' : x + G (a ∷ drop (suc i) items) ≡ total = subst (λ r. x + G r ≡ total) d k in
      rw add-one (omega (arith, k', h))

  pub next_left : (I : List A → Type 0) (a : A) → i < length items → a ≡ get_or items i a → I (drop i items) → I (a ∷ drop (suc i) items)
  next_left I a l e h = subst I (next_is items i a l e) h

  -- the end: nothing is left
  pub end_made : {B Q : Type 0} (cons : B → Q → Q) (F : List A → ℕ → Q) (all : List B) (x : ℕ) (whole none : Q) → length items ≤ i → F [] x ≡ none →
      onto cons all (F (drop i items) x) ≡ whole → onto cons all none ≡ whole
  end_made cons F all x whole none l h k = let k' = rw (drop_all i items l, h) at k in k'

  pub end_items : {B Q : Type 0} (cons : B → Q → Q) (F : List A → Q) (all : List B) (whole none : Q) → length items ≤ i → F [] ≡ none →
      onto cons all (F (drop i items)) ≡ whole → onto cons all none ≡ whole
  end_items cons F all whole none l h k = end_made cons (λ left _. F left) all 0 whole none l h k
