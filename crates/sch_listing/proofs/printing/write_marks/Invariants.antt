use Rattle.std.proofs.Common.{◌≡◌, ◌++◌, drop}
use Rattle.sch_listing.specs.Lines.{marks_text}
use Rattle.sch_listing.proofs.printing.write_marks.Given as goal

abbrev pub invariant-loop-mark : goal.invariant-loop-mark
invariant-loop-mark l = l.out ++ marks_text (drop l.mark-index l.marks) ≡ l.fn.out ++ marks_text l.marks
