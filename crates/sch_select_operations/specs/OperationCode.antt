-- The items of each operation, whose labels are from n to n + 11; its value is left in RAX.
use Rattle.std.specs.Prelude.{ℕ, List}
use Rattle.sch_word.specs.declared.place.Place.{Place}
use Rattle.sch_control.specs.declared.operation.Source.TheVariants as source
use Rattle.sch_control.specs.declared.operation.Operation.{Operation}
use Rattle.sch_control.specs.declared.operation.Operation.TheVariants as operation
use Rattle.sch_word.specs.declared.registers.TheConstants.{RAX, RCX}
use Rattle.sch_asm.specs.declared.item.Item.{Item}
use Rattle.sch_select_operations.specs.OperandCode.{operand_code}
use Rattle.sch_select_operations.specs.PrimitiveCode.{primitive_code, global_code, set_global_code}
use Rattle.sch_select_operations.specs.CellCode.{source_code, read_cell_code, write_cell_code, new_cell_code}
use Rattle.sch_select_operations.specs.CellCode.{unset_cell_code}
use Rattle.sch_select_operations.specs.ClosureCode.{closure_code}

-- where the heap ends, and how many literals stand in front of the globals
module _ (heap_end literals : ℕ) where
  abbrev pub operation_code : (n : ℕ) → Operation Place → List Item → List Item
  operation_code n (operation.Operand o) rest = operand_code n o rest
  operation_code n (operation.Prim site which operands) rest = primitive_code heap_end n which operands rest
  operation_code n (operation.Global g) rest = global_code literals g rest
  operation_code n (operation.SetGlobal g o) rest = set_global_code literals n g o rest
  operation_code n (operation.Field p k) rest = source_code RAX (source.Field p k) rest
  operation_code n (operation.NewCell x) rest = source_code RAX x (new_cell_code heap_end rest)
  operation_code n operation.UnsetCell rest = unset_cell_code heap_end rest
  operation_code n (operation.CellGet x) rest = source_code RAX x (read_cell_code rest)
  operation_code n (operation.CellSet x o) rest = operand_code n o (source_code RCX x (write_cell_code rest))
  operation_code n (operation.MakeClosure c) rest = closure_code heap_end c rest
