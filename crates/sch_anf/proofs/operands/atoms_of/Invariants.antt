use Rattle.std.proofs.Common.{◌≡◌, ◌++◌, drop}
use Rattle.sch_flat.specs.View.{trees_of}
use Rattle.sch_anf_laws.specs.Normal.{atoms_of}
use Rattle.sch_anf.specs.ScopeTable.{scope_of}
use Rattle.sch_anf_laws.proofs.Items.{left}
use Rattle.sch_anf.proofs.operands.atoms_of.Given as goal

abbrev pub invariant-loop-e : goal.invariant-loop-e
invariant-loop-e l = l.all ++ atoms_of (scope_of l.v.bound.items) (left (drop l.e-index l.e-items)) ≡ atoms_of (scope_of l.v.bound.items) (trees_of l.e-items)
