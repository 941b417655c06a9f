-- The atoms and the sites of what an expression is made of, in their order.
use Rattle.std.specs.Prelude.{ℕ, suc, List, [], ◌∷◌, ◌++◌, length}
use Rattle.sch_control.specs.declared.operation.Atom.{Atom}
use Rattle.sch_control.specs.declared.operation.Atom.TheVariants.{Variable}
use Rattle.sch_control.specs.declared.operation.Operand.{Operand}
use Rattle.sch_control.specs.declared.operation.Operand.TheVariants as operand
use Rattle.sch_control.specs.declared.operation.Source.{Source}
use Rattle.sch_control.specs.declared.operation.Source.TheVariants as source
use Rattle.sch_control.specs.declared.operation.Member.{Member}
use Rattle.sch_control.specs.declared.operation.Operation.{Operation}
use Rattle.sch_control.specs.declared.operation.Operation.TheVariants as operation
use Rattle.sch_control.specs.declared.operation.Application.{Application}

abbrev pub operand_atoms : {V : Type 0} → Operand V → List (Atom V)
operand_atoms (operand.Atom a) = a ∷ []
operand_atoms (operand.Read site which atoms) = atoms

abbrev pub operands_atoms : {V : Type 0} → List (Operand V) → List (Atom V)
operands_atoms [] = []
operands_atoms (o ∷ operands) = operand_atoms o ++ operands_atoms operands

-- a field is of the closure that a variable holds
abbrev pub source_atom : {V : Type 0} → Source V → Atom V
source_atom (source.Atom a) = a
source_atom (source.Field v k) = Variable v

abbrev pub source_atoms : {V : Type 0} → List (Source V) → List (Atom V)
source_atoms [] = []
source_atoms (x ∷ sources) = source_atom x ∷ source_atoms sources

abbrev pub operation_atoms : {V : Type 0} → Operation V → List (Atom V)
operation_atoms (operation.Operand o) = operand_atoms o
operation_atoms (operation.Prim site which operands) = operands_atoms operands
operation_atoms (operation.Global g) = []
operation_atoms (operation.SetGlobal g o) = operand_atoms o
operation_atoms (operation.Field v k) = Variable v ∷ []
operation_atoms (operation.NewCell c) = source_atom c ∷ []
operation_atoms operation.UnsetCell = []
operation_atoms (operation.CellGet c) = source_atom c ∷ []
operation_atoms (operation.CellSet c o) = source_atom c ∷ operand_atoms o
operation_atoms (operation.MakeClosure c) = source_atoms c.fields

abbrev pub application_atoms : {V : Type 0} → Application V → List (Atom V)
application_atoms a = operands_atoms (a.operator ∷ a.operands)

abbrev pub member_atoms : {V : Type 0} → List (Member V) → List (Atom V)
member_atoms [] = []
member_atoms (m ∷ members) = source_atoms m.closure.fields ++ member_atoms members

-- ## Sites, each with how many parts it has

abbrev pub operand_sites : {V : Type 0} → Operand V → List (ℕ × ℕ)
operand_sites (operand.Atom a) = []
operand_sites (operand.Read site which atoms) = (site, length atoms) ∷ []

abbrev pub operands_sites : {V : Type 0} → List (Operand V) → List (ℕ × ℕ)
operands_sites [] = []
operands_sites (o ∷ operands) = operand_sites o ++ operands_sites operands

abbrev pub operation_sites : {V : Type 0} → Operation V → List (ℕ × ℕ)
operation_sites (operation.Operand o) = operand_sites o
operation_sites (operation.Prim site which operands) = (site, length operands) ∷ operands_sites operands
operation_sites (operation.SetGlobal g o) = operand_sites o
operation_sites (operation.CellSet c o) = operand_sites o
operation_sites _ = []

-- the operator counts as a part of a call
abbrev pub application_sites : {V : Type 0} → Application V → List (ℕ × ℕ)
application_sites a = (a.site, suc (length a.operands)) ∷ operands_sites (a.operator ∷ a.operands)
