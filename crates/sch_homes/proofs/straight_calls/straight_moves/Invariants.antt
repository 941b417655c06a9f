use Rattle.std.proofs.Common.{◌≡◌, map}
use Rattle.sch_word.specs.trees.Bindings.{numbers}
use Rattle.sch_writer.specs.View.{moves_of}
use Rattle.sch_homes.specs.HomeTable.{place_in}
use Rattle.sch_homes.specs.StraightCalls.{straight_move}
use Rattle.sch_homes.proofs.straight_calls.straight_moves.Given as goal

abbrev pub invariant-loop-k : goal.invariant-loop-k
invariant-loop-k l = moves_of l.moves ≡ map (straight_move (place_in l.lives.places.now) l.tail l.a) (numbers 0 l.k)
