use Rattle.std.proofs.Common.{◌≡◌, ◌+◌, length, reverse, drop}
use Rattle.sch_cells.proofs.Rows.{and_then, and_then_lambda}
use Rattle.sch_lang.specs.View.{expressions_of, lambdas_of}
use Rattle.sch_rename.specs.Made.{binds_each, binds_lambdas, renamed_each, renamed_lambdas}
use Rattle.sch_lang.specs.InScope.{EachInScope, LambdasInScope}
use Rattle.sch_lang.proofs.ListViews.{left, left_lambdas}
use Rattle.sch_word.specs.trees.Walk.{onto}
use Rattle.sch_rename.proofs.numbering.+renaming.Given as goal

abbrev pub invariant-rename_each-loop-e : goal.invariant-rename_each-loop-e
invariant-rename_each-loop-e l = record {
  made : onto and_then l.all (renamed_each (left (drop l.e-index l.e-items)) (reverse l.scope.items) l.next) ≡ renamed_each (expressions_of l.e-items) (reverse l.initial.scope.items) l.initial.next;
  next : l.next + binds_each (left (drop l.e-index l.e-items)) ≡ l.initial.next + binds_each (expressions_of l.e-items);
  inside : EachInScope (left (drop l.e-index l.e-items)) (length l.scope.items);
  scope : l.scope.items ≡ l.initial.scope.items;
}

abbrev pub invariant-rename_lambdas-loop-l : goal.invariant-rename_lambdas-loop-l
invariant-rename_lambdas-loop-l l = record {
  made : onto and_then_lambda l.all (renamed_lambdas (left_lambdas (drop l.l-index l.l-items)) (reverse l.scope.items) l.next) ≡ renamed_lambdas (lambdas_of l.l-items) (reverse l.initial.scope.items) l.initial.next;
  next : l.next + binds_lambdas (left_lambdas (drop l.l-index l.l-items)) ≡ l.initial.next + binds_lambdas (lambdas_of l.l-items);
  inside : LambdasInScope (left_lambdas (drop l.l-index l.l-items)) (length l.scope.items);
  scope : l.scope.items ≡ l.initial.scope.items;
}
