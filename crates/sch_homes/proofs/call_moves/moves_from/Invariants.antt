use Rattle.std.proofs.Common.{◌≡◌, map, take}
use Rattle.sch_layout.specs.BodyLayout.{arguments_at}
use Rattle.sch_shuffle.specs.View.{transfers_of}
use Rattle.sch_writer.specs.View.{moves_of}
use Rattle.sch_homes.specs.CallMoves.{move_of}
use Rattle.sch_homes.specs.HomeTable.{place_in}
use Rattle.sch_homes.proofs.call_moves.moves_from.Given as goal

abbrev pub invariant-loop-step : goal.invariant-loop-step
invariant-loop-step l = moves_of l.moves ≡ map (move_of (arguments_at (place_in l.lives.places.now) l.a)) (transfers_of (take l.step-index l.steps))
