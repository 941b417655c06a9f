use Rattle.std.proofs.Common.{◌≡◌, ◌≤◌, length, reverse, take}
use Rattle.sch_lang.specs.Variables.{assigns_each, assigns_lambdas}
use Rattle.sch_lang.specs.View.{expressions_of, lambdas_of}
use Rattle.sch_lang.proofs.ListViews.{left, left_lambdas}
use Rattle.sch_variable_counts.specs.Walked.{marks_in_each, marks_in_lambdas}
use Rattle.sch_word.specs.trees.Assigned.{marked}
use Rattle.sch_variable_counts.proofs.assigned.+marking.Given as goal

abbrev pub invariant-mark_each-loop-left : goal.invariant-mark_each-loop-left
invariant-mark_each-loop-left l = record {
  scope : marked (assigns_each (left (take l.left l.items))) 0 (reverse l.scope.items) ≡ marked (assigns_each (expressions_of l.items)) 0 (reverse l.initial.scope.items);
  stack : marks_in_each (left (take l.left l.items)) (reverse l.stack.items) ≡ marks_in_each (expressions_of l.items) (reverse l.initial.stack.items);
  bound : l.left ≤ length l.items;
}

abbrev pub decreases-mark_each-loop-left : goal.decreases-mark_each-loop-left
decreases-mark_each-loop-left l = l.left

abbrev pub invariant-mark_lambdas-loop-left : goal.invariant-mark_lambdas-loop-left
invariant-mark_lambdas-loop-left l = record {
  scope : marked (assigns_lambdas (left_lambdas (take l.left l.items))) 0 (reverse l.scope.items) ≡ marked (assigns_lambdas (lambdas_of l.items)) 0 (reverse l.initial.scope.items);
  stack : marks_in_lambdas (left_lambdas (take l.left l.items)) (reverse l.stack.items) ≡ marks_in_lambdas (lambdas_of l.items) (reverse l.initial.stack.items);
  bound : l.left ≤ length l.items;
}

abbrev pub decreases-mark_lambdas-loop-left : goal.decreases-mark_lambdas-loop-left
decreases-mark_lambdas-loop-left l = l.left
