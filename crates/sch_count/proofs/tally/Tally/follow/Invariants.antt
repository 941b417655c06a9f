use Rattle.sch_count.specs.MarkTables.{table_marks}
use Rattle.sch_count.proofs.MachineMarks.{Counting}
use Rattle.sch_count.proofs.tally.Tally.follow.Given as goal

abbrev pub invariant-loop-i : goal.invariant-loop-i
invariant-loop-i g l = Counting (table_marks l.fn.table) l.i l.fn.self l.self l.fn.m l.m (g.O.Outlet.bytes l.fn.out) (g.O.Outlet.bytes l.out) (g.O.Outlet.left l.fn.out) (g.O.Outlet.left l.out)
    (g.O.Outlet.faults l.fn.out) (g.O.Outlet.faults l.out)
