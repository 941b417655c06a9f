use Rattle.std.proofs.Common.{◌≡◌, ◌+◌, ◌-◌, length, reverse, take}
use Rattle.sch_word.specs.trees.Bindings.{scope_with}
use Rattle.sch_rename.proofs.numbering.bind_variables.Given as goal

abbrev pub invariant-loop-x : goal.invariant-loop-x
invariant-loop-x l = record {
  names : scope_with l.x (l.first + l.count - l.x) (reverse l.scope.items) ≡ scope_with l.first l.count (reverse l.initial.scope.items);
  kept : take (length l.initial.scope.items) l.scope.items ≡ l.initial.scope.items;
  len : length l.scope.items + l.first ≡ length l.initial.scope.items + l.x;
}
