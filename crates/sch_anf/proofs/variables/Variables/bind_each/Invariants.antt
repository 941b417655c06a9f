use Rattle.std.proofs.Common.{◌≡◌, ◌+◌, ◌≤◌, length, take, drop}
use Rattle.sch_word.specs.trees.Bindings.{with_variables}
use Rattle.sch_anf.specs.ScopeTable.{scope_of}
use Rattle.sch_anf.proofs.variables.Variables.bind_each.Given as goal

abbrev pub invariant-loop-place : goal.invariant-loop-place
invariant-loop-place l = record {
  scope : with_variables (l.first + l.place) (drop l.place l.numbers) (scope_of l.self.bound.items) ≡ with_variables l.first l.numbers (scope_of l.initial.self.bound.items);
  kept : take (length l.initial.self.bound.items) l.self.bound.items ≡ l.initial.self.bound.items;
  more : length l.initial.self.bound.items ≤ length l.self.bound.items;
  next : l.self.next ≡ l.initial.self.next;
}
