use Rattle.std.proofs.Common.{◌≡◌, ◌++◌, List, length, take}
use Rattle.sch_word.specs.declared.mark.MarkKind.{MarkKind}
use Rattle.sch_count.specs.Tallied.{TalliesMarks}
use Rattle.sch_count.proofs.tally.Tally.pass_all.Given as goal

abbrev pub invariant-loop-mark : goal.invariant-loop-mark
invariant-loop-mark l = (length l.self.rows.items ≡ length l.fn.self.rows.items)
    × ((before : List MarkKind) → TalliesMarks l.fn.self before → TalliesMarks l.self (before ++ take l.mark-index l.marks))
