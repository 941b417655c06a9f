-- The put of any value (R5RS 6.6.3): RAX has its word, and R11 where to return.
use Rattle.std.specs.Prelude.{ℕ, ◌+◌, ◌-◌, List, [], ◌∷◌, pos}
use Rattle.sch_word.specs.declared.stop.Stop.TheVariants.{WrongType}
use Rattle.sch_insn.specs.declared.condition.TheConstants.{E, NE}
use Rattle.sch_insn.specs.declared.insn.Arg.TheVariants.{Reg}
use Rattle.sch_insn.specs.declared.insn.Insn.TheVariants.{MovFrom, MovNumber, AddTo, AddNumber, CmpNumber, Shr}
use Rattle.sch_word.specs.declared.registers.TheConstants.{RAX, RDX}
use Rattle.sch_asm.specs.declared.item.Item.{Item}
use Rattle.sch_asm.specs.declared.item.Item.TheVariants as item
use Rattle.sch_asm.specs.declared.routine.Routine.TheVariants as routine
use Rattle.sch_asm.specs.Routines.{label_of}
use Rattle.sch_select_memory.specs.Encoded.{byte_mask, cell_tag, character_shift, character_tag, false_word, fixnum_shift, nil_word}
use Rattle.sch_select_memory.specs.Encoded.{pair_tag, procedure_tag, string_tag, symbol_tag, tag_mask, true_word, vector_tag}
use Rattle.sch_select_memory.specs.Addresses.{stop_label, bytes_address, texts_address, table_address}
use Rattle.sch_select_memory.specs.Checks.{low_bits, name_entry, name_length, string_length}

-- ## Labels inside the routine

abbrev pub no_character_label : ℕ
no_character_label = 74

abbrev pub not_true_label : ℕ
not_true_label = 75

abbrev pub not_false_label : ℕ
not_false_label = 76

abbrev pub not_nil_label : ℕ
not_nil_label = 77

abbrev pub procedure_text_label : ℕ
procedure_text_label = 78

abbrev pub string_bytes_label : ℕ
string_bytes_label = 79

abbrev pub symbol_bytes_label : ℕ
symbol_bytes_label = 80

-- ## Its items

abbrev pub text_code : (address size : ℕ) → List Item → List Item
text_code address size rest =
    item.Plain (MovNumber (Reg RAX) (pos address))
    ∷ (item.Plain (MovNumber (Reg RDX) (pos size)) ∷ (item.Jump (label_of routine.Put) ∷ rest))

-- the text of one value, and then that of others
abbrev pub either_text : (word address size next : ℕ) → List Item → List Item
either_text word address size next rest =
    item.Plain (CmpNumber (Reg RAX) (pos word)) ∷ (item.JumpIf NE next ∷ text_code address size
    (item.Label next ∷ rest))

abbrev pub character_put : List Item → List Item
character_put rest =
    item.Plain (Shr (Reg RAX) character_shift)
    ∷ (item.Plain (AddNumber (Reg RAX) (pos bytes_address))
    ∷ (item.Plain (MovNumber (Reg RDX) (pos 1)) ∷ (item.Jump (label_of routine.Put) ∷ rest)))

-- RDX has the word of a length, and that many bytes stand at an offset from RAX
abbrev pub bytes_put : (offset : ℕ) → List Item → List Item
bytes_put offset rest =
    item.Plain (Shr (Reg RDX) fixnum_shift)
    ∷ (item.Plain (AddNumber (Reg RAX) (pos offset)) ∷ (item.Jump (label_of routine.Put) ∷ rest))

abbrev pub string_put : List Item → List Item
string_put rest = item.Plain (MovFrom RDX string_length) ∷ bytes_put (8 - string_tag) rest

-- the address of a symbol's name, and then its length and its bytes
abbrev pub symbol_put : List Item → List Item
symbol_put rest =
    item.LoadWord RDX table_address
    ∷ (item.Plain (AddTo (Reg RAX) RDX)
    ∷ (item.Plain (MovFrom RAX name_entry)
    ∷ (item.Plain (MovFrom RDX name_length) ∷ bytes_put 8 rest)))

abbrev pub objects_put : List Item
objects_put = string_put (item.Label symbol_bytes_label ∷ symbol_put [])

abbrev pub procedure_put : List Item
procedure_put = text_code (texts_address + 20) 12 (item.Label string_bytes_label ∷ objects_put)

abbrev pub unspecified_code : List Item
unspecified_code = text_code (texts_address + 6) 14 (item.Label procedure_text_label ∷ procedure_put)

abbrev pub nil_code : List Item
nil_code = either_text nil_word (texts_address + 4) 2 not_nil_label unspecified_code

abbrev pub false_code : List Item
false_code = either_text false_word (texts_address + 2) 2 not_false_label nil_code

abbrev pub texts_code : List Item
texts_code = either_text true_word texts_address 2 not_true_label false_code

abbrev pub immediate_put : List Item
immediate_put =
    low_bits RAX byte_mask (item.Plain (CmpNumber (Reg RDX) (pos character_tag)) ∷ (item.JumpIf NE no_character_label
    ∷ character_put (item.Label no_character_label ∷ texts_code)))

-- to a label where RDX has a tag
abbrev pub where_tag : (tag label : ℕ) → List Item → List Item
where_tag tag label rest = item.Plain (CmpNumber (Reg RDX) (pos tag)) ∷ (item.JumpIf E label ∷ rest)

abbrev pub put_value_code : List Item
put_value_code =
    low_bits RAX tag_mask (item.JumpIf E (label_of routine.PutFixnum)
    ∷ where_tag procedure_tag procedure_text_label (where_tag cell_tag (stop_label WrongType)
    (where_tag pair_tag (stop_label WrongType) (where_tag vector_tag (stop_label WrongType)
    (where_tag string_tag string_bytes_label (where_tag symbol_tag symbol_bytes_label immediate_put))))))
