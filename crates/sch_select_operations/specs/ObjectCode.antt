-- Objects (R5RS 6.3): the word of an object is its address and the tag of its kind.
use Rattle.std.specs.Prelude.{ℕ, ◌-◌, List, ◌∷◌, length, pos}
use Rattle.sch_word.specs.declared.stop.Stop.TheVariants.{WrongType, OutOfRange, HeapLimit}
use Rattle.sch_word.specs.runs.Charges.{pair_bytes}
use Rattle.sch_word.specs.runs.ProgramLayout.{data_address}
use Rattle.sch_word.specs.declared.registers.TheConstants.{HEAP_REGISTER, RAX, RCX, RDX, R11}
use Rattle.sch_insn.specs.declared.condition.TheConstants.{AE, NE, A}
use Rattle.sch_insn.specs.declared.insn.Arg.{Arg}
use Rattle.sch_insn.specs.declared.insn.Arg.TheVariants.{Reg, Base32}
use Rattle.sch_insn.specs.declared.insn.Insn.TheVariants.{MovTo, MovFrom, MovNumber, StoreByte, LoadByte, AddTo}
use Rattle.sch_insn.specs.declared.insn.Insn.TheVariants.{AddNumber, SubNumber, CmpNumber, CmpFrom, Shl, Shr}
use Rattle.sch_asm.specs.declared.item.Item.{Item}
use Rattle.sch_asm.specs.declared.item.Item.TheVariants.{Label, Plain, Jump, JumpIf, LoadLabel, LoadWord}
use Rattle.sch_select_memory.specs.Encoded.{byte_mask, character_shift, character_tag, fixnum_shift, pair_tag, string_tag, symbol_tag, tag_mask, unspecified_word, vector_tag, word_displacement}
use Rattle.sch_select_memory.specs.Addresses.{heap_offset, stop_label, table_address, vector_label, string_label, part_operand}
use Rattle.sch_select_memory.specs.Checks.{low_bits, check_fixnum, name_entry, name_length, round_code, string_length}

-- ## The heap: its register has the address of the next part

-- The heap has this number of bytes left, or stop 71. RDX is overwritten. The bytes are no more than the data's address.
abbrev pub check_heap : (heap_end bytes : ℕ) → List Item → List Item
check_heap heap_end bytes rest =
    Plain (MovTo (Reg RDX) HEAP_REGISTER) ∷ (Plain (SubNumber (Reg RDX) (pos (data_address - bytes)))
    ∷ (Plain (CmpNumber (Reg RDX) (pos (heap_offset heap_end))) ∷ (JumpIf A (stop_label HeapLimit) ∷ rest)))

-- the heap's register has the address of a part with this number of bytes: its word with a tag into RAX, and the next part
abbrev pub part_code : (tag bytes : ℕ) → List Item → List Item
part_code tag bytes rest =
    Plain (MovTo (Reg RAX) HEAP_REGISTER) ∷ (Plain (AddNumber (Reg RAX) (pos tag)) ∷
    (Plain (AddNumber (Reg HEAP_REGISTER) (pos bytes)) ∷ rest))

-- ## Pairs

-- a register has a word with a tag, or stop 65
abbrev pub check_tag : (r tag : ℕ) → List Item → List Item
check_tag r tag rest = low_bits r tag_mask (Plain (CmpNumber (Reg RDX) (pos tag)) ∷ (JumpIf NE (stop_label WrongType) ∷ rest))

-- RAX has a pair: one of its words, at an offset from its word
abbrev pub part_of_pair : Arg → List Item → List Item
part_of_pair from rest = check_tag RAX pair_tag (Plain (MovFrom RAX from) ∷ rest)

-- RAX has a pair, one of whose words becomes RCX
abbrev pub set_part_of_pair : Arg → List Item → List Item
set_part_of_pair to rest =
    check_tag RAX pair_tag (Plain (MovTo to RCX) ∷ (Plain (MovNumber (Reg RAX) (pos unspecified_word)) ∷ rest))

abbrev pub first_of_pair : Arg
first_of_pair = Base32 RAX (word_displacement pair_tag 0)

abbrev pub rest_of_pair : Arg
rest_of_pair = Base32 RAX (word_displacement pair_tag 1)

-- a new pair of RAX and RCX
abbrev pub pair_code : (heap_end : ℕ) → List Item → List Item
pair_code heap_end rest =
    check_heap heap_end pair_bytes (Plain (MovTo (part_operand 0) RAX) ∷ (Plain (MovTo (part_operand 8) RCX) ∷ part_code
    pair_tag pair_bytes rest))

-- ## Vectors and strings

-- RAX has an object of a kind: the word of its length, at an address
abbrev pub length_code : (tag : ℕ) → Arg → List Item → List Item
length_code tag from rest = check_tag RAX tag (Plain (MovFrom RAX from) ∷ rest)

abbrev pub vector_length : Arg
vector_length = Base32 RAX (word_displacement vector_tag 0)

-- RCX has the word of a number below a length whose word is at an address, or stop 66. Of numbers without a sign a
-- negative one is none.
abbrev pub check_index : (length : Arg) → List Item → List Item
check_index length rest = Plain (CmpFrom RCX length) ∷ (JumpIf AE (stop_label OutOfRange) ∷ rest)

-- an element of the vector in RAX, and a byte of the string in RAX, at the index in RCX
abbrev pub vector_element : Arg
vector_element = Base32 RAX (word_displacement vector_tag 1)

abbrev pub string_byte : Arg
string_byte = Base32 RAX (word_displacement string_tag 1)

-- and a byte of the name whose address is in RAX
abbrev pub name_byte : Arg
name_byte = Base32 RAX (pos 8)

abbrev pub vector_ref_code : List Item → List Item
vector_ref_code rest =
    check_tag RAX vector_tag (check_fixnum RCX (check_index vector_length
    (Plain (AddTo (Reg RAX) RCX) ∷ (Plain (MovFrom RAX vector_element) ∷ rest))))

-- a byte in RAX becomes a character
abbrev pub character_code : List Item → List Item
character_code rest = Plain (Shl (Reg RAX) character_shift) ∷ (Plain (AddNumber (Reg RAX) (pos character_tag)) ∷ rest)

abbrev pub string_ref_code : List Item → List Item
string_ref_code rest =
    check_tag RAX string_tag (check_fixnum RCX (check_index string_length
    (Plain (Shr (Reg RCX) fixnum_shift) ∷ (Plain (AddTo (Reg RAX) RCX) ∷ (Plain (LoadByte RAX string_byte) ∷ character_code rest)))))

-- R11 has what is stored, which is any value in a vector and a character in a string
abbrev pub vector_set_code : List Item → List Item
vector_set_code rest =
    check_tag RAX vector_tag (check_fixnum RCX (check_index vector_length
    (Plain (AddTo (Reg RAX) RCX) ∷ (Plain (MovTo vector_element R11) ∷
    (Plain (MovNumber (Reg RAX) (pos unspecified_word)) ∷ rest)))))

abbrev pub string_set_code : List Item → List Item
string_set_code rest =
    check_tag RAX string_tag (check_fixnum RCX (low_bits R11 byte_mask (Plain (CmpNumber (Reg RDX) (pos character_tag)) ∷
    (JumpIf NE (stop_label WrongType) ∷ check_index string_length
    (Plain (Shr (Reg RCX) fixnum_shift) ∷ (Plain (AddTo (Reg RAX) RCX) ∷ (Plain (Shr (Reg R11) character_shift) ∷
    (Plain (StoreByte string_byte R11) ∷ (Plain (MovNumber (Reg RAX) (pos unspecified_word)) ∷ rest)))))))))

-- ## Names of symbols

-- The name of a symbol in RAX: its address there, with the word of its length first. The address of the names of all
-- symbols is a word of the data.
abbrev pub name_code : List Item → List Item
name_code rest =
    check_tag RAX symbol_tag (LoadWord RDX table_address ∷ (Plain (AddTo (Reg RAX) RDX)
    ∷ (Plain (MovFrom RAX name_entry) ∷ rest)))

abbrev pub symbol_length_code : List Item → List Item
symbol_length_code rest = name_code (Plain (MovFrom RAX name_length) ∷ rest)

abbrev pub symbol_ref_code : List Item → List Item
symbol_ref_code rest =
    name_code (check_fixnum RCX (check_index name_length
    (Plain (Shr (Reg RCX) fixnum_shift) ∷ (Plain (AddTo (Reg RAX) RCX) ∷ (Plain (LoadByte RAX name_byte) ∷
    character_code rest)))))

-- ## New vectors and strings

-- A new vector or string, whose length is in RAX and whose elements are RCX: a run-time routine checks these, and fills it.
-- It stands where the next part begins, with a tag. Its bytes are what `size_code` computes of its length.
abbrev pub filled_code : (n label tag : ℕ) → (size_code : List Item → List Item) → List Item → List Item
filled_code n label tag size_code rest =
    LoadLabel R11 n ∷ (Jump label ∷ (Label n ∷ (Plain (MovFrom RDX (part_operand 0)) ∷ size_code (round_code
    (Plain (MovTo (Reg RAX) HEAP_REGISTER) ∷ (Plain (AddNumber (Reg RAX) (pos tag)) ∷ (Plain (AddTo (Reg HEAP_REGISTER) RDX) ∷ rest)))))))

abbrev pub vector_code : (n : ℕ) → List Item → List Item
vector_code n rest = filled_code n vector_label vector_tag (λ code. code) rest

abbrev pub string_code : (n : ℕ) → List Item → List Item
string_code n rest = filled_code n string_label string_tag (λ code. Plain (Shr (Reg RDX) fixnum_shift) ∷ code) rest
