use Rattle.std.proofs.Common.{◌≡◌, ◌≤◌, length, reverse, take}
use Rattle.sch_lang.specs.Measures.{onto_all}
use Rattle.sch_variable_counts.proofs.scopes.bind_all.Given as goal

abbrev pub invariant-loop-left : goal.invariant-loop-left
invariant-loop-left l = record {
  once : onto_all l.left l.each (reverse l.scope.items) ≡ onto_all l.count l.each (reverse l.initial.scope.items);
  kept : take (length l.initial.scope.items) l.scope.items ≡ l.initial.scope.items;
  len : length l.initial.scope.items ≤ length l.scope.items;
}

abbrev pub decreases-loop-left : goal.decreases-loop-left
decreases-loop-left l = l.left
