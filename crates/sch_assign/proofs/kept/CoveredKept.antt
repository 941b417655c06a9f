-- Covered code stays covered.
use Rattle.std.proofs.Common.{ℕ, Bool, refl}
use Rattle.std.specs.Prelude.{IsTrue, nat_le}
use Rattle.sch_word.specs.trees.Shape.{Shape, max_library}
use Rattle.sch_word.specs.trees.Covered.{is_covered_node}
use Rattle.sch_word.proofs.Shaped.{Implies, implies_joins}
use Rattle.sch_cells.specs.Covered.{are_covered, are_covered_bodies, is_covered_library, is_covered_program}
use Rattle.sch_cells.specs.Tree.{Source, count_lambdas}
use Rattle.sch_assign.specs.Converted.{converted_each, converted_lambdas, converted_source}
use Rattle.sch_assign.proofs.ConversionIsRight.{IsRight}
use Rattle.sch_assign.proofs.kept.FreeMoved.{count_lambdas_same}
use Rattle.sch_assign.proofs.kept.ShapesKept.{Becomes, same, read, set, bound, fewer, shapes_kept}
use Rattle.sch_word.proofs.facts.Booleans.{and_true, and_of, and_parts}

node_turn : (s t : Shape) → Becomes s t → Implies (is_covered_node s) (is_covered_node t)
node_turn s t same h = h
node_turn s t read h = h
node_turn s t set h = h
node_turn s t bound h = h
node_turn s t (fewer l) h = h

pub covered_kept : (has_cell : ℕ → Bool) (n : ℕ) (p : Source) → IsRight has_cell n p → IsTrue (is_covered_program p) → IsTrue (is_covered_program (converted_source has_cell n p))
covered_kept has_cell n p r h =
    let l = and_parts (is_covered_library p.library) (are_covered p.forms) h in
    let few = and_parts (nat_le (count_lambdas p.library) max_library) (are_covered_bodies p.library) l.0 in
    let w = shapes_kept has_cell n implies_joins (λ a. refl) and_true is_covered_node is_covered_node node_turn (λ k. refl) refl refl (λ k. refl) p r (and_of _ _ few.1 l.1) in
    let u = and_parts (are_covered_bodies (converted_lambdas has_cell n p.library)) (are_covered (converted_each has_cell n p.forms)) w in
    and_of _ _ (rw (count_lambdas_same has_cell n p.library) (and_of _ _ few.0 u.0)) u.1
