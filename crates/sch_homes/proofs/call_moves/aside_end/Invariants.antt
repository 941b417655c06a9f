use Rattle.std.proofs.Common.{◌≡◌, drop}
use Rattle.sch_writer.specs.View.{moves_of}
use Rattle.sch_homes.specs.CallMoves.{aside_end}
use Rattle.sch_homes.proofs.call_moves.aside_end.Given as goal

abbrev pub invariant-loop-m : goal.invariant-loop-m
invariant-loop-m l = aside_end l.most (moves_of (drop l.m-index l.moves)) ≡ aside_end l.end (moves_of l.moves)
