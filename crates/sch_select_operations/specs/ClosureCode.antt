-- Closures, and groups of closures that know one another.
use Rattle.std.specs.Prelude.{ℕ, ◌+◌, List, [], ◌∷◌, length, pos}
use Rattle.sch_word.specs.declared.mark.MarkKind.TheVariants.{Spill}
use Rattle.sch_word.specs.declared.place.Place.{Place}
use Rattle.sch_word.specs.declared.place.Place.TheVariants as place
use Rattle.sch_word.specs.runs.Charges.{procedure_bytes}
use Rattle.sch_word.specs.declared.registers.TheConstants.{HEAP_REGISTER, RCX}
use Rattle.sch_control.specs.declared.operation.Source.{Source}
use Rattle.sch_control.specs.declared.operation.Closure.{Closure}
use Rattle.sch_control.specs.declared.operation.Member.{Member}
use Rattle.sch_insn.specs.declared.insn.Arg.TheVariants.{Reg}
use Rattle.sch_insn.specs.declared.insn.Insn.TheVariants.{MovTo, AddNumber}
use Rattle.sch_asm.specs.declared.item.Item.{Item}
use Rattle.sch_asm.specs.declared.item.Item.TheVariants.{Plain, LoadLabel, Mark}
use Rattle.sch_select_memory.specs.Encoded.{procedure_tag}
use Rattle.sch_select_memory.specs.Addresses.{body_label, place_operand, part_operand}
use Rattle.sch_select_operations.specs.ObjectCode.{check_heap, part_code}
use Rattle.sch_select_operations.specs.CellCode.{source_code}

-- the fields of a record, from an offset on
abbrev pub fields_code : (offset : ℕ) → List (Source Place) → List Item → List Item
fields_code offset [] rest = rest
fields_code offset (x ∷ sources) rest =
    source_code RCX x (Plain (MovTo (part_operand offset) RCX) ∷ fields_code (offset + 8) sources rest)

-- a record at an offset: the address of its code, and its fields
abbrev pub record_code : (offset : ℕ) → Closure Place → List Item → List Item
record_code offset c rest =
    LoadLabel RCX (body_label c.label) ∷ (Plain (MovTo (part_operand offset) RCX) ∷ fields_code (offset + 8) c.fields
    rest)

abbrev pub closure_bytes : Closure Place → ℕ
closure_bytes c = procedure_bytes (length c.fields)

-- a new closure
abbrev pub closure_code : (heap_end : ℕ) → Closure Place → List Item → List Item
closure_code heap_end c rest =
    check_heap heap_end (closure_bytes c) (record_code 0 c (part_code procedure_tag (closure_bytes c) rest))

-- ## Groups: the heap has room for all of them, each has its word in its place, and then each has its record

abbrev pub group_bytes : List (Member Place) → ℕ
group_bytes [] = 0
group_bytes (m ∷ members) = closure_bytes m.closure + group_bytes members

-- What is stored in a slot stands behind the mark of the first of the spilled variables, and what a register gets behind none.
abbrev pub spill_code : Place → (spills : List ℕ) → List Item → List Item
spill_code (place.Slot j) (x ∷ spills) rest = Mark (Spill x) ∷ rest
spill_code p spills rest = rest

-- the spilled variables whose marks are to come
abbrev pub spills_behind : Place → (spills : List ℕ) → List ℕ
spills_behind (place.Slot j) (x ∷ spills) = spills
spills_behind p spills = spills

abbrev pub places_code : (offset : ℕ) → List (Member Place) → (spills : List ℕ) → List Item → List Item
places_code offset [] spills rest = rest
places_code offset (m ∷ members) spills rest =
    Plain (MovTo (Reg RCX) HEAP_REGISTER) ∷ (Plain (AddNumber (Reg RCX) (pos (offset + procedure_tag)))
    ∷ spill_code m.at spills (Plain (MovTo (place_operand m.at) RCX)
    ∷ places_code (offset + closure_bytes m.closure) members (spills_behind m.at spills) rest))

abbrev pub records_code : (offset : ℕ) → List (Member Place) → List Item → List Item
records_code offset [] rest = rest
records_code offset (m ∷ members) rest = record_code offset m.closure
    (records_code (offset + closure_bytes m.closure) members rest)

abbrev pub group_code : (heap_end : ℕ) → List (Member Place) → (spills : List ℕ) → List Item → List Item
group_code heap_end members spills rest =
    check_heap heap_end (group_bytes members) (places_code 0 members spills (records_code 0 members
    (Plain (AddNumber (Reg HEAP_REGISTER) (pos (group_bytes members))) ∷ rest)))
