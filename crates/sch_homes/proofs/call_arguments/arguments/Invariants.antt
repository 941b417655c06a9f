use Rattle.std.proofs.Common.{◌≡◌, ◌∷◌, map, take}
use Rattle.sch_layout.specs.BodyLayout.{operands_at}
use Rattle.sch_shuffle.specs.View.{tree}
use Rattle.sch_homes.specs.CallMoves.{operand_tree}
use Rattle.sch_homes.specs.HomeTable.{place_in}
use Rattle.sch_homes.proofs.call_arguments.arguments.Given as goal

abbrev pub invariant-loop-o : goal.invariant-loop-o
invariant-loop-o l = map tree l.made ≡ map operand_tree (operands_at (place_in l.lives.places.now) (l.a.operator ∷ take l.o-index l.o-items))
