-- Which operations items can be made for: the slots, the fields, the operands and the bodies that they name are few enough that
-- each displacement, each immediate and each label is a number of 32 bits.
use Rattle.std.specs.Prelude.{ℕ, ◌*◌, Bool, true, ◌&&◌, nat_le, nat_lt, length}
use Rattle.std.specs.List.{list_all}
use Rattle.sch_word.specs.declared.place.Place.{Place}
use Rattle.sch_word.specs.runs.Charges.{procedure_bytes}
use Rattle.sch_word.specs.trees.Shape.{max_free_variables, max_operands}
use Rattle.sch_control.specs.declared.operation.Atom.{Atom}
use Rattle.sch_control.specs.declared.operation.Atom.TheVariants.{Variable}
use Rattle.sch_control.specs.declared.operation.Operand.{Operand}
use Rattle.sch_control.specs.declared.operation.Operand.TheVariants as operand
use Rattle.sch_control.specs.declared.operation.Source.{Source}
use Rattle.sch_control.specs.declared.operation.Source.TheVariants as source
use Rattle.sch_control.specs.declared.operation.Closure.{Closure}
use Rattle.sch_control.specs.declared.operation.Member.{Member}
use Rattle.sch_control.specs.declared.operation.Operation.{Operation}
use Rattle.sch_control.specs.declared.operation.Operation.TheVariants as operation
use Rattle.sch_select_memory.specs.Reach.{is_reached_label, is_reached_place}

abbrev pub is_reached_atom : Atom Place → Bool
is_reached_atom (Variable p) = is_reached_place p
is_reached_atom _ = true

abbrev pub is_reached_operand : Operand Place → Bool
is_reached_operand (operand.Atom a) = is_reached_atom a
is_reached_operand (operand.Read site which atoms) = list_all is_reached_atom atoms

abbrev pub is_reached_source : Source Place → Bool
is_reached_source (source.Atom a) = is_reached_atom a
is_reached_source (source.Field p k) = is_reached_place p && nat_lt k max_free_variables

abbrev pub is_reached_closure : Closure Place → Bool
is_reached_closure c = is_reached_label c.label && (nat_le (length c.fields) max_free_variables && list_all is_reached_source c.fields)

abbrev pub is_reached_member : Member Place → Bool
is_reached_member m = is_reached_place m.at && is_reached_closure m.closure

-- the most bytes of a closure's record, and of those of a group
abbrev pub max_record_bytes : ℕ
max_record_bytes = procedure_bytes max_free_variables

abbrev pub max_group_bytes : ℕ
max_group_bytes = max_record_bytes * max_operands

abbrev pub is_reached_operation : Operation Place → Bool
is_reached_operation (operation.Operand o) = is_reached_operand o
is_reached_operation (operation.Prim site which operands) = list_all is_reached_operand operands
is_reached_operation (operation.SetGlobal g o) = is_reached_operand o
is_reached_operation (operation.Field p k) = is_reached_place p && nat_lt k max_free_variables
is_reached_operation (operation.NewCell x) = is_reached_source x
is_reached_operation (operation.CellGet x) = is_reached_source x
is_reached_operation (operation.CellSet x o) = is_reached_source x && is_reached_operand o
is_reached_operation (operation.MakeClosure c) = is_reached_closure c
is_reached_operation _ = true
