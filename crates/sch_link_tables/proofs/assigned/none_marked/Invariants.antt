use Rattle.std.proofs.Common.{◌≡◌, drop}
use Rattle.sch_link_tables.specs.Assigned.{none_marked}
use Rattle.sch_link_tables.proofs.assigned.none_marked.Given as goal

abbrev pub invariant-loop-mark : goal.invariant-loop-mark
invariant-loop-mark l = none_marked (drop l.mark-index l.marks) ≡ none_marked l.marks
