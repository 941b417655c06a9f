-- What closures capture, and cells.
use Rattle.std.specs.Prelude.{ℕ, suc, List, ◌∷◌, pos}
use Rattle.sch_word.specs.declared.place.Place.{Place}
use Rattle.sch_word.specs.declared.stop.Stop.TheVariants.{Unset}
use Rattle.sch_word.specs.runs.Charges.{cell_bytes}
use Rattle.sch_control.specs.declared.operation.Source.{Source}
use Rattle.sch_control.specs.declared.operation.Source.TheVariants as source
use Rattle.sch_insn.specs.declared.condition.TheConstants.{E, NE}
use Rattle.sch_insn.specs.declared.insn.Arg.{Arg}
use Rattle.sch_insn.specs.declared.insn.Arg.TheVariants.{Reg, Base32}
use Rattle.sch_insn.specs.declared.insn.Insn.TheVariants.{MovTo, MovFrom, MovNumber, CmpNumber}
use Rattle.sch_word.specs.declared.registers.TheConstants.{RAX, RCX, RDX}
use Rattle.sch_asm.specs.declared.item.Item.{Item}
use Rattle.sch_asm.specs.declared.item.Item.TheVariants.{Plain, JumpIf}
use Rattle.sch_select_memory.specs.Encoded.{cell_tag, procedure_tag, tag_mask, unset_word, unspecified_word, word_displacement}
use Rattle.sch_select_memory.specs.Addresses.{stop_label, place_operand, part_operand}
use Rattle.sch_select_memory.specs.Checks.{low_bits}
use Rattle.sch_select_operations.specs.ObjectCode.{check_heap, part_code}
use Rattle.sch_select_operations.specs.OperandCode.{atom_code}

-- the word of a field, which the address of the code is before, from the word of its closure in a register
abbrev pub field_operand : (r k : ℕ) → Arg
field_operand r k = Base32 r (word_displacement procedure_tag (suc k))

-- what a closure captures, or a cell that is read or set, into a register
abbrev pub source_code : (r : ℕ) → Source Place → List Item → List Item
source_code r (source.Atom a) rest = atom_code r a rest
source_code r (source.Field p k) rest =
    Plain (MovFrom r (place_operand p)) ∷ (Plain (MovFrom r (field_operand r k)) ∷ rest)

-- a register has a cell, or stop 73
abbrev pub check_cell : (r : ℕ) → List Item → List Item
check_cell r rest = low_bits r tag_mask (Plain (CmpNumber (Reg RDX) (pos cell_tag)) ∷ (JumpIf NE (stop_label Unset) ∷ rest))

-- the word of a cell that is checked
abbrev pub cell_operand : (r : ℕ) → Arg
cell_operand r = Base32 r (word_displacement cell_tag 0)

-- RAX has the word of a cell, whose contents are read into it, or stop 73
abbrev pub read_cell_code : List Item → List Item
read_cell_code rest =
    check_cell RAX (Plain (MovFrom RAX (cell_operand RAX))
    ∷ (Plain (CmpNumber (Reg RAX) (pos unset_word)) ∷ (JumpIf E (stop_label Unset) ∷ rest)))

-- RCX has the word of a cell, which is set to RAX, or stop 73
abbrev pub write_cell_code : List Item → List Item
write_cell_code rest =
    check_cell RCX (Plain (MovTo (cell_operand RCX) RAX) ∷ (Plain (MovNumber (Reg RAX) (pos unspecified_word)) ∷ rest))

-- a new cell with what RAX has, and one that is unset
abbrev pub new_cell_code : (heap_end : ℕ) → List Item → List Item
new_cell_code heap_end rest = check_heap heap_end cell_bytes
    (Plain (MovTo (part_operand 0) RAX) ∷ part_code cell_tag cell_bytes rest)

abbrev pub unset_cell_code : (heap_end : ℕ) → List Item → List Item
unset_cell_code heap_end rest =
    check_heap heap_end cell_bytes (Plain (MovNumber (part_operand 0) (pos unset_word)) ∷ part_code cell_tag
    cell_bytes rest)
