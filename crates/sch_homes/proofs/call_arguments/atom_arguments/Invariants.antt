use Rattle.std.proofs.Common.{◌≡◌, map, take}
use Rattle.sch_shuffle.specs.View.{tree}
use Rattle.sch_homes.specs.CallMoves.{atom_tree}
use Rattle.sch_homes.proofs.call_arguments.atom_arguments.Given as goal

abbrev pub invariant-loop-a : goal.invariant-loop-a
invariant-loop-a l = map tree l.made ≡ map atom_tree (take l.a-index l.atoms)
