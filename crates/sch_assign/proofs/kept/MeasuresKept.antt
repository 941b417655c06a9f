-- What is counted of a program and of what is made of it.
use Rattle.std.proofs.Common.{◌≡◌, ℕ, ◌+◌, ◌≤◌, Bool, [], ◌++◌, refl, arith}
use Rattle.std.proofs.lemmas.List.{append-nil}
use Rattle.std.proofs.Math.Nat.{zero-add, add-zero}
use Rattle.sch_word.specs.trees.Shape.{Shape, call_site_of, tests_in, dropped_in}
use Rattle.sch_word.proofs.Shaped.{Equal, equal_joins, AtMost, at_most_joins}
use Rattle.sch_cells.specs.Tree.{Source}
use Rattle.sch_cells.specs.Measures.{call_sites_of, tests_of, dropped_of}
use Rattle.sch_assign.specs.Converted.{converted_source}
use Rattle.sch_assign.proofs.ConversionIsRight.{IsRight}
use Rattle.sch_assign.proofs.kept.ShapesKept.{Becomes, same, read, set, bound, fewer, shapes_kept}

call_turn : (s t : Shape) → Becomes s t → Equal (call_site_of s) (call_site_of t)
call_turn s t same = refl
call_turn s t read = refl
call_turn s t set = refl
call_turn s t bound = refl
call_turn s t (fewer l) = refl

test_turn : (s t : Shape) → Becomes s t → Equal (tests_in s) (tests_in t)
test_turn s t same = refl
test_turn s t read = refl
test_turn s t set = refl
test_turn s t bound = refl
test_turn s t (fewer l) = refl

dropped_turn : (s t : Shape) → Becomes s t → AtMost (dropped_in s) (dropped_in t)
dropped_turn s t same = omega arith
dropped_turn s t read = omega arith
dropped_turn s t set = omega arith
dropped_turn s t bound = omega arith
dropped_turn s t (fewer l) = l

module _ (has_cell : ℕ → Bool) (n : ℕ) (p : Source) (r : IsRight has_cell n p) where
  pub calls_kept : call_sites_of (converted_source has_cell n p) ≡ call_sites_of p
  calls_kept = shapes_kept has_cell n (equal_joins [] (λ a b. a ++ b)) (λ a. refl) append-nil call_site_of call_site_of call_turn (λ k. refl) refl refl (λ k. refl) p r

  pub tests_kept : tests_of (converted_source has_cell n p) ≡ tests_of p
  tests_kept = shapes_kept has_cell n (equal_joins 0 (λ a b. a + b)) zero-add add-zero tests_in tests_in test_turn (λ k. refl) refl refl (λ k. refl) p r

  pub dropped_kept : dropped_of (converted_source has_cell n p) ≤ dropped_of p
  dropped_kept = shapes_kept has_cell n at_most_joins zero-add add-zero dropped_in dropped_in dropped_turn (λ k. refl) refl refl (λ k. refl) p r
