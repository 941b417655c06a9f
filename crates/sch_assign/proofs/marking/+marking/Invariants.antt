use Rattle.std.proofs.Common.{◌≡◌, length, drop}
use Rattle.sch_cells.specs.View.{trees_of, lambdas_of}
use Rattle.sch_cells.proofs.Rows.{left, left_lambdas}
use Rattle.sch_assign.specs.InRange.{EachInRange, LambdasInRange}
use Rattle.sch_assign.specs.Table.{each_marked, lambdas_marked}
use Rattle.sch_assign.proofs.marking.+marking.Given as goal

abbrev pub invariant-mark_each-loop-e : goal.invariant-mark_each-loop-e
invariant-mark_each-loop-e l = record {
  ahead : each_marked (left (drop l.e-index l.e-items)) l.celled.items ≡ each_marked (trees_of l.e-items) l.initial.celled.items;
  size : length l.celled.items ≡ length l.initial.celled.items;
  within : EachInRange (length l.celled.items) (left (drop l.e-index l.e-items));
}

abbrev pub invariant-mark_lambdas-loop-l : goal.invariant-mark_lambdas-loop-l
invariant-mark_lambdas-loop-l l = record {
  ahead : lambdas_marked (left_lambdas (drop l.l-index l.l-items)) l.celled.items ≡ lambdas_marked (lambdas_of l.l-items) l.initial.celled.items;
  size : length l.celled.items ≡ length l.initial.celled.items;
  within : LambdasInRange (length l.celled.items) (left_lambdas (drop l.l-index l.l-items));
}
