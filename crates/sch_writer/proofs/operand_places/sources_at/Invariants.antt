use Rattle.std.proofs.Common.{◌≡◌, take}
use Rattle.sch_layout.specs.BodyLayout.{sources_at}
use Rattle.sch_writer.proofs.operand_places.sources_at.Given as goal

abbrev pub invariant-loop-c : goal.invariant-loop-c
invariant-loop-c g l = l.made ≡ sources_at (g.P.VariablePlaces.plan l.places).place (take l.c-index l.sources)
