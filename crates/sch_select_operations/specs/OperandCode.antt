-- Atoms, operands and the primitives over registers. RAX is the accumulator, RCX has a second operand, and RDX and R11 are
-- free.
use Rattle.std.specs.Prelude.{ℕ, ◌-◌, ◌*◌, List, [], ◌∷◌, pos}
use Rattle.sch_word.specs.declared.place.Place.{Place}
use Rattle.sch_word.specs.declared.primitive.Primitive.{Primitive}
use Rattle.sch_word.specs.declared.primitive.Primitive.TheVariants.{Eq, Eqv, IsBoolean, IsPair, IsNull, IsSymbol}
use Rattle.sch_word.specs.declared.primitive.Primitive.TheVariants.{IsInteger, IsChar, IsString, IsVector}
use Rattle.sch_word.specs.declared.primitive.Primitive.TheVariants.{IsProcedure, Add, Subtract, Multiply, Quotient}
use Rattle.sch_word.specs.declared.primitive.Primitive.TheVariants.{Remainder, Modulo, Equal, Less, Greater}
use Rattle.sch_word.specs.declared.primitive.Primitive.TheVariants.{LessEqual, GreaterEqual, CharToInteger}
use Rattle.sch_word.specs.declared.primitive.Primitive.TheVariants.{IntegerToChar, Put, Car, Cdr, SetCar, SetCdr}
use Rattle.sch_word.specs.declared.primitive.Primitive.TheVariants.{MakeString, StringLength, StringRef, MakeVector}
use Rattle.sch_word.specs.declared.primitive.Primitive.TheVariants.{VectorLength, VectorRef, SymbolLength, SymbolRef}
use Rattle.sch_word.specs.declared.stop.Stop.TheVariants.{OutOfRange}
use Rattle.sch_control.specs.declared.operation.Atom.{Atom}
use Rattle.sch_control.specs.declared.operation.Atom.TheVariants.{Constant, Literal, Variable}
use Rattle.sch_control.specs.declared.operation.Operand.{Operand}
use Rattle.sch_control.specs.declared.operation.Operand.TheVariants as operand
use Rattle.sch_insn.specs.declared.condition.TheConstants.{E, A, L, GE, LE, G}
use Rattle.sch_insn.specs.declared.insn.Arg.TheVariants.{Reg}
use Rattle.sch_insn.specs.declared.insn.Insn.TheVariants.{MovTo, MovFrom, MovNumber, MovWord, AddTo, SubTo, AddNumber}
use Rattle.sch_insn.specs.declared.insn.Insn.TheVariants.{CmpNumber, Imul, Shl, Shr, Sar}
use Rattle.sch_word.specs.declared.registers.TheConstants.{RAX, RCX, RDX, R11}
use Rattle.sch_asm.specs.declared.item.Item.{Item}
use Rattle.sch_asm.specs.declared.item.Item.TheVariants.{Label, Plain, Jump, JumpIf, LoadLabel, LoadWord}
use Rattle.sch_select_memory.specs.Encoded.{boolean_mask, byte_mask, character_shift, character_tag, constant_number, false_word, fixnum_shift, fixnum_tag, nil_word, pair_tag, procedure_tag, string_tag, symbol_tag, tag_mask, unspecified_word, vector_tag}
use Rattle.sch_select_memory.specs.Addresses.{stop_label, literal_address, put_label, place_operand}
use Rattle.sch_select_memory.specs.Checks.{check_fixnum, check_character, test_code, overflow_code, string_length}
use Rattle.sch_select_operations.specs.ArithmeticCode.{compare_code, comparison_code, division_code, modulo_code}
use Rattle.sch_select_operations.specs.ObjectCode.{part_of_pair, set_part_of_pair, first_of_pair, rest_of_pair, length_code}
use Rattle.sch_select_operations.specs.ObjectCode.{vector_length, vector_ref_code, string_ref_code, symbol_length_code}
use Rattle.sch_select_operations.specs.ObjectCode.{symbol_ref_code, vector_code, string_code}

-- an atom into a register
abbrev pub atom_code : (r : ℕ) → Atom Place → List Item → List Item
atom_code r (Constant c) rest = Plain (MovWord r (constant_number c)) ∷ rest
atom_code r (Variable p) rest = Plain (MovFrom r (place_operand p)) ∷ rest
atom_code r (Literal n) rest = LoadWord r (literal_address n) ∷ rest

abbrev pub put_code : (n : ℕ) → List Item → List Item
put_code n rest = LoadLabel R11 n ∷ (Jump put_label ∷
    (Label n ∷ (Plain (MovNumber (Reg RAX) (pos unspecified_word)) ∷ rest)))

-- ## One operand, and two

-- the word of 255, the greatest number that is a character's
abbrev pub max_byte_word : ℕ
max_byte_word = 8 * 255

abbrev pub unary_code : (n : ℕ) → Primitive → List Item → List Item
unary_code n IsBoolean rest = test_code n boolean_mask false_word rest
unary_code n IsPair rest = test_code n tag_mask pair_tag rest
unary_code n IsNull rest = test_code n byte_mask nil_word rest
unary_code n IsSymbol rest = test_code n tag_mask symbol_tag rest
unary_code n IsInteger rest = test_code n tag_mask fixnum_tag rest
unary_code n IsChar rest = test_code n byte_mask character_tag rest
unary_code n IsString rest = test_code n tag_mask string_tag rest
unary_code n IsVector rest = test_code n tag_mask vector_tag rest
unary_code n IsProcedure rest = test_code n tag_mask procedure_tag rest
unary_code n CharToInteger rest = check_character (Plain (Shr (Reg RAX) character_shift) ∷ (Plain (Shl (Reg RAX) fixnum_shift) ∷ rest))
unary_code n IntegerToChar rest =
    check_fixnum RAX (Plain (CmpNumber (Reg RAX) (pos max_byte_word)) ∷ (JumpIf A (stop_label OutOfRange)
    ∷ (Plain (Shl (Reg RAX) (character_shift - fixnum_shift)) ∷ (Plain (AddNumber (Reg RAX) (pos character_tag)) ∷ rest))))
unary_code n Put rest = put_code n rest
unary_code n Car rest = part_of_pair first_of_pair rest
unary_code n Cdr rest = part_of_pair rest_of_pair rest
unary_code n StringLength rest = length_code string_tag string_length rest
unary_code n VectorLength rest = length_code vector_tag vector_length rest
unary_code n SymbolLength rest = symbol_length_code rest
unary_code n _ rest = rest

abbrev pub binary_code : (n : ℕ) → Primitive → List Item → List Item
binary_code n Eq rest = compare_code n E rest
binary_code n Eqv rest = compare_code n E rest
binary_code n Add rest = check_fixnum RAX (check_fixnum RCX (Plain (AddTo (Reg RAX) RCX) ∷ overflow_code rest))
binary_code n Subtract rest = check_fixnum RAX (check_fixnum RCX (Plain (SubTo (Reg RAX) RCX) ∷ overflow_code rest))
binary_code n Multiply rest =
    check_fixnum RAX (check_fixnum RCX (Plain (Sar (Reg RAX) fixnum_shift) ∷ (Plain (Imul RAX (Reg RCX)) ∷ overflow_code rest)))
binary_code n Quotient rest = division_code (Plain (MovNumber (Reg RCX) (pos 8)) ∷
    (Plain (Imul RAX (Reg RCX)) ∷ overflow_code rest))
binary_code n Remainder rest = division_code (Plain (MovTo (Reg RAX) RDX) ∷ rest)
binary_code n Modulo rest = division_code (Plain (MovTo (Reg RAX) RDX) ∷ modulo_code n rest)
binary_code n Equal rest = comparison_code n E rest
binary_code n Less rest = comparison_code n L rest
binary_code n Greater rest = comparison_code n G rest
binary_code n LessEqual rest = comparison_code n LE rest
binary_code n GreaterEqual rest = comparison_code n GE rest
binary_code n SetCar rest = set_part_of_pair first_of_pair rest
binary_code n SetCdr rest = set_part_of_pair rest_of_pair rest
binary_code n StringRef rest = string_ref_code rest
binary_code n VectorRef rest = vector_ref_code rest
binary_code n SymbolRef rest = symbol_ref_code rest
binary_code n MakeString rest = string_code n rest
binary_code n MakeVector rest = vector_code n rest
binary_code n _ rest = rest

-- ## Operands

-- a primitive that reads, over atoms
abbrev pub read_code : (n : ℕ) → Primitive → List (Atom Place) → List Item → List Item
read_code n which (a ∷ []) rest = atom_code RAX a (unary_code n which rest)
read_code n which (a ∷ (b ∷ [])) rest = atom_code RAX a (atom_code RCX b (binary_code n which rest))
read_code n which atoms rest = rest

-- an operand into RAX
abbrev pub operand_code : (n : ℕ) → Operand Place → List Item → List Item
operand_code n (operand.Atom a) rest = atom_code RAX a rest
operand_code n (operand.Read site which atoms) rest = read_code n which atoms rest

-- a second operand into RCX; RAX keeps the first
abbrev pub second_code : (n : ℕ) → Operand Place → List Item → List Item
second_code n (operand.Atom a) rest = atom_code RCX a rest
second_code n (operand.Read site which atoms) rest =
    Plain (MovTo (Reg R11) RAX) ∷ read_code n which atoms
    (Plain (MovTo (Reg RCX) RAX) ∷ (Plain (MovTo (Reg RAX) R11) ∷ rest))
