use Rattle.std.proofs.Common.{◌≡◌, drop}
use Rattle.sch_flat.specs.View.{trees_of}
use Rattle.sch_anf_laws.specs.Normal.{are_atoms}
use Rattle.sch_anf_laws.proofs.Items.{left}
use Rattle.sch_anf.proofs.simple.are_atoms.Given as goal

abbrev pub invariant-loop-e : goal.invariant-loop-e
invariant-loop-e l = are_atoms (left (drop l.e-index l.e-items)) ≡ are_atoms (trees_of l.e-items)
