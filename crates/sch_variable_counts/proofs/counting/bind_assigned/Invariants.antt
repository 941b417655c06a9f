use Rattle.std.proofs.Common.{◌≡◌, ◌≤◌, Bool, List, length, reverse, take}
use Rattle.sch_lang.specs.Tree.{Expression}
use Rattle.sch_lang.specs.Variables.{assigns}
use Rattle.sch_variable_counts.specs.Walked.{capped, marks_of}
use Rattle.sch_variable_counts.proofs.CappedCounts.{Bound}
use Rattle.sch_variable_counts.proofs.counting.bind_assigned.Given as goal

abbrev pub invariant-loop-left : goal.invariant-loop-left
invariant-loop-left l = record {
  taken : (e : Expression) (rest : List Bool) → reverse l.initial.marks.items ≡ marks_of l.count (assigns e) rest → Bound e l.count l.left l.total rest l.initial.once.items l.marks.items l.once.items;
  small : l.total ≡ capped l.total;
  kept : take (length l.initial.once.items) l.once.items ≡ l.initial.once.items;
  len : length l.initial.once.items ≤ length l.once.items;
  bound : l.left ≤ l.count;
}

abbrev pub decreases-loop-left : goal.decreases-loop-left
decreases-loop-left l = l.left
