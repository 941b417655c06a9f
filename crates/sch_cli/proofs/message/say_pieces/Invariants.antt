use Rattle.std.proofs.Common.{◌≡◌, ◌≤◌, ◌++◌, take}
use Rattle.sch_io.specs.Told.{Tells}
use Rattle.sch_cli.specs.Messages.{joined}
use Rattle.sch_cli.proofs.message.say_pieces.Given as goal

abbrev pub invariant-loop-piece : goal.invariant-loop-piece
invariant-loop-piece g l = Tells (g.E.Outlet.bytes l.fn.err) (g.E.Outlet.bytes l.err) (λ before after. after ≡ before ++ joined (take l.piece-index l.pieces))
    × (g.E.Outlet.faults l.fn.err ≤ g.E.Outlet.faults l.err)
