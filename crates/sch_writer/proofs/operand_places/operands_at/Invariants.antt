use Rattle.std.proofs.Common.{◌≡◌, take}
use Rattle.sch_layout.specs.BodyLayout.{operands_at}
use Rattle.sch_writer.proofs.operand_places.operands_at.Given as goal

abbrev pub invariant-loop-o : goal.invariant-loop-o
invariant-loop-o g l = l.made ≡ operands_at (g.P.VariablePlaces.plan l.places).place (take l.o-index l.operands)
