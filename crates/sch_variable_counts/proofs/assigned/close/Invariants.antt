use Rattle.std.proofs.Common.{◌≡◌, ℕ, ◌-◌, ◌≤◌, ◌++◌, Bool, List, map, reverse}
use Rattle.sch_word.specs.trees.Bindings.{numbers}
use Rattle.sch_variable_counts.specs.Walked.{marks_of}
use Rattle.sch_variable_counts.proofs.assigned.close.Given as goal

abbrev pub invariant-loop-left : goal.invariant-loop-left
invariant-loop-left l = record {
  taken : (f : ℕ → Bool) (rest : List Bool) → reverse l.initial.scope.items ≡ map f (numbers 0 l.count) ++ rest →
      (reverse l.scope.items ≡ map f (numbers (l.count - l.left) l.left) ++ rest) × (reverse l.stack.items ≡ marks_of (l.count - l.left) f (reverse l.initial.stack.items));
  bound : l.left ≤ l.count;
}

abbrev pub decreases-loop-left : goal.decreases-loop-left
decreases-loop-left l = l.left
