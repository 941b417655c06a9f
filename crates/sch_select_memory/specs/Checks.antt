-- Checks and tests of words. RAX is the accumulator, and RDX is overwritten.
use Rattle.std.specs.Prelude.{ℕ, ◌+◌, List, ◌∷◌, pos}
use Rattle.sch_word.specs.declared.stop.Stop.TheVariants.{WrongType, Overflow}
use Rattle.sch_insn.specs.declared.condition.TheConstants.{O, E, NE}
use Rattle.sch_insn.specs.declared.insn.Arg.{Arg}
use Rattle.sch_insn.specs.declared.insn.Arg.TheVariants.{Reg, Base32}
use Rattle.sch_insn.specs.declared.insn.Insn.TheVariants.{MovTo, MovNumber, AddNumber, AndNumber, CmpNumber, Shl, Shr}
use Rattle.sch_word.specs.declared.registers.TheConstants.{RAX, RDX}
use Rattle.sch_asm.specs.declared.item.Item.{Item}
use Rattle.sch_asm.specs.declared.item.Item.TheVariants.{Label, Plain, JumpIf}
use Rattle.sch_select_memory.specs.Encoded.{byte_mask, character_tag, false_word, string_tag, symbol_tag, tag_mask, true_word, unit_shift, word_displacement}
use Rattle.sch_select_memory.specs.Addresses.{stop_label}

-- the low bits of a register into RDX
abbrev pub low_bits : (r mask : ℕ) → List Item → List Item
low_bits r mask rest = Plain (MovTo (Reg RDX) r) ∷ (Plain (AndNumber (Reg RDX) (pos mask)) ∷ rest)

-- a register has a fixnum, or stop 65
abbrev pub check_fixnum : (r : ℕ) → List Item → List Item
check_fixnum r rest = low_bits r tag_mask (JumpIf NE (stop_label WrongType) ∷ rest)

-- RAX has a character, or stop 65
abbrev pub check_character : List Item → List Item
check_character rest = low_bits RAX byte_mask (Plain (CmpNumber (Reg RDX) (pos character_tag)) ∷
    (JumpIf NE (stop_label WrongType) ∷ rest))

-- RAX becomes `#t` where a condition holds, and `#f` elsewhere
abbrev pub boolean_code : (n condition : ℕ) → List Item → List Item
boolean_code n condition rest =
    Plain (MovNumber (Reg RAX) (pos true_word))
    ∷ (JumpIf condition n ∷ (Plain (MovNumber (Reg RAX) (pos false_word)) ∷ (Label n ∷ rest)))

-- whether the low bits of RAX are these
abbrev pub test_code : (n mask tag : ℕ) → List Item → List Item
test_code n mask tag rest = low_bits RAX mask (Plain (CmpNumber (Reg RDX) (pos tag)) ∷ boolean_code n E rest)

-- what was computed has no overflow, or stop 70
abbrev pub overflow_code : List Item → List Item
overflow_code rest = JumpIf O (stop_label Overflow) ∷ rest

-- what is added to the bytes of an object's elements before they are cut down to whole units: those of the word of its length, and
-- one less than a unit has
abbrev pub rounding : ℕ
rounding = 8 + 15

-- the bytes of an object in RDX, from those of its elements: with the word of its length, and rounded up to whole units
abbrev pub round_code : List Item → List Item
round_code rest =
    Plain (AddNumber (Reg RDX) (pos rounding)) ∷ (Plain (Shr (Reg RDX) unit_shift) ∷ (Plain (Shl (Reg RDX) unit_shift) ∷ rest))

-- the word of the length of the string in RAX
abbrev pub string_length : Arg
string_length = Base32 RAX (word_displacement string_tag 0)

-- the address of a symbol's name, from the symbol's word and the address of those of all symbols, whose sum is in RAX
abbrev pub name_entry : Arg
name_entry = Base32 RAX (word_displacement symbol_tag 0)

-- the word of the length of the name whose address is in RAX
abbrev pub name_length : Arg
name_length = Base32 RAX (pos 0)
