use Rattle.std.proofs.Common.{◌≡◌, drop, reverse}
use Rattle.sch_lang.specs.Measures.{variables_each, variables_operands, variables_parts}
use Rattle.sch_lang.specs.View.{expressions_of, lambdas_of}
use Rattle.sch_lang.proofs.ListViews.{left, left_lambdas}
use Rattle.sch_variable_counts.specs.Walked.{capped}
use Rattle.sch_variable_counts.proofs.TakenMarks.{EachTurn, LambdasTurn}
use Rattle.sch_variable_counts.proofs.counting.+counting.Given as goal

abbrev pub invariant-count_each-loop-e : goal.invariant-count_each-loop-e
invariant-count_each-loop-e l = record {
  turn : EachTurn (λ es. variables_each es (reverse l.initial.once.items)) (left (drop l.e-index l.e-items)) (expressions_of l.e-items) l.initial.marks.items l.marks.items l.total;
  small : l.total.variables ≡ capped l.total.variables;
  once : l.once.items ≡ l.initial.once.items;
}

abbrev pub invariant-count_operands-loop-e : goal.invariant-count_operands-loop-e
invariant-count_operands-loop-e l = record {
  turn : EachTurn (λ es. variables_operands es (reverse l.initial.once.items)) (left (drop l.e-index l.e-items)) (expressions_of l.e-items) l.initial.marks.items l.marks.items l.total;
  small : l.total.variables ≡ capped l.total.variables;
  once : l.once.items ≡ l.initial.once.items;
}

abbrev pub invariant-count_parts-loop-i : goal.invariant-count_parts-loop-i
invariant-count_parts-loop-i l = record {
  turn : EachTurn (λ es. variables_parts es (reverse l.initial.once.items)) (left (drop l.i l.items)) (expressions_of l.items) l.initial.marks.items l.marks.items l.total;
  small : l.total.variables ≡ capped l.total.variables;
  once : l.once.items ≡ l.initial.once.items;
}

abbrev pub invariant-count_each_lambda-loop-l : goal.invariant-count_each_lambda-loop-l
invariant-count_each_lambda-loop-l l = record { turn : LambdasTurn (left_lambdas (drop l.l-index l.l-items)) (lambdas_of l.l-items) l.initial.marks.items l.marks.items l.few }
