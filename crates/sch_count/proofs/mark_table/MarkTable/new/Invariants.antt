use Rattle.std.proofs.Common.{◌≡◌, ℕ, nat_eq, take}
use Rattle.std.specs.HashMap.{get}
use Rattle.sch_asm.specs.Stands.{marks_at}
use Rattle.sch_count.specs.MarkTables.{entered_at}
use Rattle.sch_count.proofs.mark_table.MarkTable.new.Given as goal

abbrev pub invariant-loop-mark : goal.invariant-loop-mark
invariant-loop-mark l = (a : ℕ) → entered_at (get nat_eq l.kinds a) ≡ marks_at (take l.mark-index l.marks) a
