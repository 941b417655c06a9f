use Rattle.std.proofs.Common.{◌≡◌, ◌≤◌, length, reverse, take}
use Rattle.std.specs.Prelude.{◌&&◌}
use Rattle.sch_lang.specs.View.{expressions_of, lambdas_of}
use Rattle.sch_lang.proofs.ListViews.{left, left_lambdas}
use Rattle.sch_variable_counts.specs.Walked.{found_each, found_lambdas}
use Rattle.sch_variable_counts.specs.Within.{has_few_free, each_procedure_in, each_lambda}
use Rattle.sch_variable_counts.proofs.free.+finding.Given as goal

abbrev pub invariant-find_each-loop-left : goal.invariant-find_each-loop-left
invariant-find_each-loop-left l = record {
  found : found_each (left (take l.left l.items)) (reverse l.xs.items) ≡ found_each (expressions_of l.items) (reverse l.initial.xs.items);
  few : (each_procedure_in has_few_free (left (take l.left l.items)) && l.few) ≡ each_procedure_in has_few_free (expressions_of l.items);
  bound : l.left ≤ length l.items;
}

abbrev pub decreases-find_each-loop-left : goal.decreases-find_each-loop-left
decreases-find_each-loop-left l = l.left

abbrev pub invariant-find_lambdas-loop-left : goal.invariant-find_lambdas-loop-left
invariant-find_lambdas-loop-left l = record {
  found : found_lambdas (left_lambdas (take l.left l.items)) (reverse l.xs.items) ≡ found_lambdas (lambdas_of l.items) (reverse l.initial.xs.items);
  few : (each_lambda has_few_free (left_lambdas (take l.left l.items)) && l.few) ≡ each_lambda has_few_free (lambdas_of l.items);
  bound : l.left ≤ length l.items;
}

abbrev pub decreases-find_lambdas-loop-left : goal.decreases-find_lambdas-loop-left
decreases-find_lambdas-loop-left l = l.left
