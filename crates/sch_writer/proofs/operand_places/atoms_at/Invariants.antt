use Rattle.std.proofs.Common.{◌≡◌, take}
use Rattle.sch_layout.specs.BodyLayout.{atoms_at}
use Rattle.sch_writer.proofs.operand_places.atoms_at.Given as goal

abbrev pub invariant-loop-a : goal.invariant-loop-a
invariant-loop-a g l = l.made ≡ atoms_at (g.P.VariablePlaces.plan l.places).place (take l.a-index l.atoms)
