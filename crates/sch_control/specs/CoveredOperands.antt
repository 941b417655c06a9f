-- Atoms and operands of covered code, and which bodies are forms.
use Rattle.std.specs.Prelude.{Bool, true, false, ◌&&◌, Option, Some, None}
use Rattle.std.specs.List.{list_all}
use Rattle.sch_word.specs.trees.Covered.{is_covered_constant, is_covered_primitive, are_literals_covered}
use Rattle.sch_control.specs.declared.body.Entry.{Entry}
use Rattle.sch_control.specs.declared.operation.Atom.{Atom}
use Rattle.sch_control.specs.declared.operation.Atom.TheVariants.{Constant, Literal, Variable}
use Rattle.sch_control.specs.declared.operation.Operand.{Operand}
use Rattle.sch_control.specs.declared.operation.Operand.TheVariants as operand

-- ## Atoms and operands, where `V` says where a value stands

abbrev pub is_covered_atom : {V : Type 0} → Atom V → Bool
is_covered_atom (Constant c) = is_covered_constant c
is_covered_atom (Literal n) = are_literals_covered
is_covered_atom (Variable v) = true

abbrev pub is_covered_operand : {V : Type 0} → Operand V → Bool
is_covered_operand (operand.Atom a) = is_covered_atom a
is_covered_operand (operand.Read site which atoms) = is_covered_primitive which && list_all is_covered_atom atoms

-- ## Bodies

-- the body of a top-level form has no entry
abbrev pub is_form : Option Entry → Bool
is_form None = true
is_form (Some e) = false
