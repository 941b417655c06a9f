use Rattle.std.proofs.Common.{◌≡◌, ◌+◌, ◌-◌, ◌≤◌, length, take}
use Rattle.sch_word.specs.trees.Bindings.{numbers, with_variables}
use Rattle.sch_anf.specs.ScopeTable.{scope_of}
use Rattle.sch_anf.proofs.variables.Variables.bind_group.Given as goal

abbrev pub invariant-loop-place : goal.invariant-loop-place
invariant-loop-place l = record {
  scope : with_variables (l.first + l.place) (numbers l.self.next (l.count - l.place)) (scope_of l.self.bound.items)
      ≡ with_variables l.first (numbers l.initial.self.next l.count) (scope_of l.initial.self.bound.items);
  kept : take (length l.initial.self.bound.items) l.self.bound.items ≡ l.initial.self.bound.items;
  more : length l.initial.self.bound.items ≤ length l.self.bound.items;
  next : l.self.next ≡ l.initial.self.next + l.place;
}
