use Rattle.std.proofs.Common.{◌≡◌, take}
use Rattle.sch_layout.specs.BodyLayout.{members_at}
use Rattle.sch_writer.proofs.operand_places.members_at.Given as goal

abbrev pub invariant-loop-m : goal.invariant-loop-m
invariant-loop-m g l = l.made ≡ members_at (g.P.VariablePlaces.plan l.places).place (take l.m-index l.members)
