use Rattle.std.proofs.Common.{◌≡◌, ◌+◌, length, drop, map}
use Rattle.sch_word.specs.trees.Walk.{onto}
use Rattle.sch_cells.specs.View.{trees_of, lambdas_of}
use Rattle.sch_cells.proofs.Rows.{left, left_lambdas}
use Rattle.sch_flat.specs.View.{body}
use Rattle.sch_closure.specs.Closed.{procedures_each, procedures_lambdas, captured, closed_each, made_each}
use Rattle.sch_closure.specs.Fresh.{EachStands, LambdasStand}
use Rattle.sch_closure.specs.Walked.{with_bodies_each, with_bodies_lambdas}
use Rattle.sch_closure.proofs.MadeLists.{and_then, and_then_made}
use Rattle.sch_closure.proofs.closing.+closing.Given as goal

abbrev pub invariant-close_each-loop-e : goal.invariant-close_each-loop-e
invariant-close_each-loop-e l = record {
  made : onto and_then l.all (closed_each (left (drop l.e-index l.e-items)) l.own (length l.bodies.items)) ≡ closed_each (trees_of l.e-items) l.own (length l.initial.bodies.items);
  bodies : with_bodies_each (left (drop l.e-index l.e-items)) (map body l.bodies.items) ≡ with_bodies_each (trees_of l.e-items) (map body l.initial.bodies.items);
  count : length l.bodies.items + procedures_each (left (drop l.e-index l.e-items)) ≡ length l.initial.bodies.items + procedures_each (trees_of l.e-items);
  stand : EachStands captured l.fields (left (drop l.e-index l.e-items)) (length l.bodies.items);
}

abbrev pub invariant-close_lambdas-loop-l : goal.invariant-close_lambdas-loop-l
invariant-close_lambdas-loop-l l = record {
  made : onto and_then_made l.all (made_each (left_lambdas (drop l.l-index l.l-items)) l.own (length l.bodies.items)) ≡ made_each (lambdas_of l.l-items) l.own (length l.initial.bodies.items);
  bodies : with_bodies_lambdas (left_lambdas (drop l.l-index l.l-items)) (map body l.bodies.items) ≡ with_bodies_lambdas (lambdas_of l.l-items) (map body l.initial.bodies.items);
  count : length l.bodies.items + procedures_lambdas (left_lambdas (drop l.l-index l.l-items)) ≡ length l.initial.bodies.items + procedures_lambdas (lambdas_of l.l-items);
  stand : LambdasStand captured l.fields (left_lambdas (drop l.l-index l.l-items)) (length l.bodies.items);
}
