-- The size of an operand is one at least, and no less than its atoms.
use Rattle.std.proofs.Common.{◌≤◌, length, arith}
use Rattle.sch_control.specs.declared.operation.Operand.{Operand}
use Rattle.sch_control.specs.declared.operation.Operand.TheVariants as operand
use Rattle.sch_control.specs.AtomsAndSites.{operand_atoms}
use Rattle.sch_control.specs.Sizes.{operand_size}

pub operand_long : {V : Type 0} (o : Operand V) → 1 ≤ operand_size o
operand_long (operand.Atom a) = omega arith
operand_long (operand.Read site which atoms) = omega arith

pub atoms_within : {V : Type 0} (o : Operand V) → length (operand_atoms o) ≤ operand_size o
atoms_within (operand.Atom a) = omega arith
atoms_within (operand.Read site which atoms) = omega arith
