-- Primitives over operands, whose labels are from n to n + 11, and the words of globals.
use Rattle.std.specs.Prelude.{ℕ, ◌+◌, List, [], ◌∷◌, pos}
use Rattle.sch_word.specs.declared.place.Place.{Place}
use Rattle.sch_word.specs.declared.primitive.Primitive.{Primitive}
use Rattle.sch_word.specs.declared.primitive.Primitive.TheVariants.{Cons, StringSet, VectorSet}
use Rattle.sch_word.specs.declared.stop.Stop.TheVariants.{WrongType, Unset}
use Rattle.sch_control.specs.declared.operation.Operand.{Operand}
use Rattle.sch_control.specs.declared.operation.Operand.TheVariants as operand
use Rattle.sch_insn.specs.declared.condition.TheConstants.{E}
use Rattle.sch_insn.specs.declared.insn.Arg.TheVariants.{Reg}
use Rattle.sch_insn.specs.declared.insn.Insn.TheVariants.{MovTo, MovNumber, CmpNumber}
use Rattle.sch_word.specs.declared.registers.TheConstants.{RAX, RCX, R11}
use Rattle.sch_asm.specs.declared.item.Item.{Item}
use Rattle.sch_asm.specs.declared.item.Item.TheVariants.{Plain, Jump, JumpIf, LoadWord, StoreWord}
use Rattle.sch_select_memory.specs.Encoded.{unspecified_word, unset_word}
use Rattle.sch_select_memory.specs.Addresses.{stop_label, global_address}
use Rattle.sch_select_operations.specs.ObjectCode.{pair_code, vector_set_code, string_set_code}
use Rattle.sch_select_operations.specs.OperandCode.{atom_code, unary_code, binary_code, operand_code, second_code}

-- what is stored at an index
abbrev pub ternary_code : Primitive → List Item → List Item
ternary_code StringSet rest = string_set_code rest
ternary_code VectorSet rest = vector_set_code rest
ternary_code _ rest = rest

-- an index into RCX; one that a primitive reads is a boolean, and so stop 65
abbrev pub index_operand : Operand Place → List Item → List Item
index_operand (operand.Atom a) rest = atom_code RCX a rest
index_operand (operand.Read site which atoms) rest = Jump (stop_label WrongType) ∷ rest

-- three operands into R11, RAX and RCX, the last one first
abbrev pub three_code : (n : ℕ) → (a b c : Operand Place) → List Item → List Item
three_code n a b c rest =
    operand_code n c (Plain (MovTo (Reg R11) RAX) ∷ operand_code (n + 4) a (index_operand b rest))

-- `cons` alone needs to know where the heap ends
abbrev pub pair_or_binary : (heap_end n : ℕ) → Primitive → List Item → List Item
pair_or_binary heap_end n Cons rest = pair_code heap_end rest
pair_or_binary heap_end n which rest = binary_code n which rest

abbrev pub primitive_code : (heap_end n : ℕ) → Primitive → List (Operand Place) → List Item → List Item
primitive_code heap_end n which (a ∷ []) rest = operand_code n a (unary_code (n + 8) which rest)
primitive_code heap_end n which (a ∷ (b ∷ [])) rest =
    operand_code n a (second_code (n + 4) b (pair_or_binary heap_end (n + 8) which rest))
primitive_code heap_end n which (a ∷ (b ∷ (c ∷ []))) rest = three_code n a b c (ternary_code which rest)
primitive_code heap_end n which _ rest = rest

-- ## Globals, behind a number of literals

-- a global into RAX, or stop 73 where it is unset
abbrev pub global_code : (literals g : ℕ) → List Item → List Item
global_code literals g rest =
    LoadWord RAX (global_address literals g) ∷ (Plain (CmpNumber (Reg RAX) (pos unset_word)) ∷
    (JumpIf E (stop_label Unset) ∷ rest))

-- an operand into a global
abbrev pub set_global_code : (literals n g : ℕ) → Operand Place → List Item → List Item
set_global_code literals n g o rest =
    operand_code n o (StoreWord (global_address literals g) RAX ∷ (Plain (MovNumber (Reg RAX) (pos unspecified_word)) ∷ rest))
