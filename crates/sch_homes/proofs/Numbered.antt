-- Lists of what numbers from zero on have.
use Rattle.std.proofs.Common.{◌≡◌, ℕ, zero, suc, ◌+◌, ◌<◌, List, [], ◌∷◌, ◌++◌, length, map, sym, ap, ◌∙◌, arith}
use Rattle.std.proofs.lemmas.List.{map-append, length-map}
use Rattle.sch_word.specs.declared.place.Place.{Place}
use Rattle.sch_word.specs.trees.Bindings.{numbers}
use Rattle.sch_word.proofs.facts.NumberSets.{numbers_length}
use Rattle.sch_shuffle.specs.Assignment.{place_at}

numbers_more : (count from : ℕ) → numbers from (suc count) ≡ numbers from count ++ (from + count) ∷ []
numbers_more zero from = ap (λ n. n ∷ []) (omega arith)
numbers_more (suc count) from = let same : suc from + count ≡ from + suc count = omega arith in ap (λ ns. from ∷ ns) (numbers_more count (suc from) ∙ ap (λ n. numbers (suc from) count ++ n ∷ []) same)

-- the numbers from zero on, with one more
pub one_more : (k : ℕ) (before after : List ℕ) → before ≡ numbers 0 k → after ≡ before ++ k ∷ [] → after ≡ numbers 0 (k + 1)
one_more k before after b a =
    let n : k + 1 ≡ suc k = omega arith in
    let z : 0 + k ≡ k = omega arith in
    a ∙ (ap (λ ks. ks ++ k ∷ []) b ∙ (ap (λ j. numbers 0 k ++ j ∷ []) (sym z) ∙ (sym (numbers_more k 0) ∙ ap (numbers 0) (sym n))))

module _ {A : Type 0} (f : ℕ → A) where
  -- with one number more
  pub map_more : (k : ℕ) (before after : List A) (p : A) → before ≡ map f (numbers 0 k) → after ≡ before ++ p ∷ [] → p ≡ f k → after ≡ map f (numbers 0 (k + 1))
  map_more k before after p b a e =
      let n : k + 1 ≡ suc k = omega arith in
      let z : 0 + k ≡ k = omega arith in
      a ∙ (ap (λ ps. ps ++ p ∷ []) b ∙ (ap (λ q. map f (numbers 0 k) ++ q ∷ []) (e ∙ ap f (sym z))
      ∙ (sym (map-append f (numbers 0 k) ((0 + k) ∷ [])) ∙ ap (map f) (sym (numbers_more k 0) ∙ ap (numbers 0) (sym n)))))

  pub map_length : (k : ℕ) → length (map f (numbers 0 k)) ≡ k
  map_length k = length-map (numbers 0 k) f ∙ numbers_length 0 k

module _ (f : ℕ → Place) where
  mapped_at : (count from k : ℕ) → k < count → place_at (map f (numbers from count)) k ≡ f (from + k)
  mapped_at zero from k lt = absurd (omega (arith, lt))
  mapped_at (suc count) from zero lt = ap f (omega arith)
  mapped_at (suc count) from (suc k) lt = mapped_at count (suc from) k (omega (arith, lt)) ∙ ap f (omega arith)

  -- each stands at its number
  pub map_at : (count k : ℕ) → k < count → place_at (map f (numbers 0 count)) k ≡ f k
  map_at count k lt = mapped_at count 0 k lt ∙ ap f (omega arith)
