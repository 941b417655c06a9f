use Rattle.std.proofs.Common.{◌≡◌, drop}
use Rattle.sch_cells.specs.View.{trees_of, lambdas_of}
use Rattle.sch_cells.proofs.Rows.{and_then, and_then_lambda, left, left_lambdas}
use Rattle.sch_assign.specs.Converted.{converted_each, converted_lambdas}
use Rattle.sch_assign.specs.InRange.{EachInRange, LambdasInRange}
use Rattle.sch_assign.specs.Table.{table}
use Rattle.sch_word.specs.trees.Walk.{onto}
use Rattle.sch_assign.proofs.conversion.+converting.Given as goal

abbrev pub invariant-convert_each-loop-e : goal.invariant-convert_each-loop-e
invariant-convert_each-loop-e l = record {
  made : onto and_then l.all (converted_each (table l.celled) l.n (left (drop l.e-index l.e-items))) ≡ converted_each (table l.celled) l.n (trees_of l.e-items);
  within : EachInRange l.n (left (drop l.e-index l.e-items));
}

abbrev pub invariant-convert_lambdas-loop-l : goal.invariant-convert_lambdas-loop-l
invariant-convert_lambdas-loop-l l = record {
  made : onto and_then_lambda l.all (converted_lambdas (table l.celled) l.n (left_lambdas (drop l.l-index l.l-items))) ≡ converted_lambdas (table l.celled) l.n (lambdas_of l.l-items);
  within : LambdasInRange l.n (left_lambdas (drop l.l-index l.l-items));
}
