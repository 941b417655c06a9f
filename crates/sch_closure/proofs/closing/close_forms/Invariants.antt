use Rattle.std.proofs.Common.{◌≡◌, ◌+◌, ◌++◌, [], length, drop, map}
use Rattle.sch_word.specs.trees.Walk.{onto}
use Rattle.sch_cells.specs.View.{trees_of}
use Rattle.sch_cells.proofs.Rows.{left}
use Rattle.sch_flat.specs.View.{body}
use Rattle.sch_closure.specs.Closed.{procedures_each, captured, closed_each, starts}
use Rattle.sch_closure.specs.Fresh.{EachStands}
use Rattle.sch_closure.specs.Walked.{with_bodies_each}
use Rattle.sch_closure.proofs.MadeLists.{and_then}
use Rattle.sch_closure.proofs.closing.close_forms.Given as goal

abbrev pub invariant-loop-e : goal.invariant-loop-e
invariant-loop-e l = record {
  made : onto and_then l.all (closed_each (left (drop l.e-index l.e-items)) [] (length l.bodies.items)) ≡ closed_each (trees_of l.e-items) [] (length l.initial.bodies.items);
  bodies : with_bodies_each (left (drop l.e-index l.e-items)) (map body l.bodies.items) ≡ with_bodies_each (trees_of l.e-items) (map body l.initial.bodies.items);
  count : length l.bodies.items + procedures_each (left (drop l.e-index l.e-items)) ≡ length l.initial.bodies.items + procedures_each (trees_of l.e-items);
  stand : EachStands captured l.fields (left (drop l.e-index l.e-items)) (length l.bodies.items);
  starts : l.before ++ starts (left (drop l.e-index l.e-items)) (length l.bodies.items) ≡ starts (trees_of l.e-items) (length l.initial.bodies.items);
}
