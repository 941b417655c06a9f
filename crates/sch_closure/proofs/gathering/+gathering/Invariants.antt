use Rattle.std.proofs.Common.{◌≡◌, ◌≤◌, length, reverse, take}
use Rattle.sch_cells.specs.View.{trees_of, lambdas_of}
use Rattle.sch_cells.proofs.Rows.{left, left_lambdas}
use Rattle.sch_closure.specs.Found.{found_each, found_lambdas, fields_of_each, fields_of_lambdas}
use Rattle.sch_closure.proofs.gathering.+gathering.Given as goal

abbrev pub invariant-find_each-loop-left : goal.invariant-find_each-loop-left
invariant-find_each-loop-left l = record {
  free : found_each (left (take l.left l.items)) (reverse l.free.items) ≡ found_each (trees_of l.items) (reverse l.initial.free.items);
  fields : fields_of_each (left (take l.left l.items)) (reverse l.fields.items) ≡ fields_of_each (trees_of l.items) (reverse l.initial.fields.items);
  bound : l.left ≤ length l.items;
}

abbrev pub decreases-find_each-loop-left : goal.decreases-find_each-loop-left
decreases-find_each-loop-left l = l.left

abbrev pub invariant-find_lambdas-loop-left : goal.invariant-find_lambdas-loop-left
invariant-find_lambdas-loop-left l = record {
  free : found_lambdas (left_lambdas (take l.left l.items)) (reverse l.free.items) ≡ found_lambdas (lambdas_of l.items) (reverse l.initial.free.items);
  fields : fields_of_lambdas (left_lambdas (take l.left l.items)) (reverse l.fields.items) ≡ fields_of_lambdas (lambdas_of l.items) (reverse l.initial.fields.items);
  bound : l.left ≤ length l.items;
}

abbrev pub decreases-find_lambdas-loop-left : goal.decreases-find_lambdas-loop-left
decreases-find_lambdas-loop-left l = l.left
