-- Which programs are valid.
use Rattle.std.specs.Prelude.{ℕ, suc, ◌+◌, nat_eq, cond, Bool, true, ◌&&◌, ◌||◌, not, nat_lt, nat_le, List, [], ◌∷◌, length, Option, is_some}
use Rattle.std.specs.List.{list_all}
use Rattle.sch_word.specs.declared.place.Place.{Place}
use Rattle.sch_word.specs.declared.place.Place.TheVariants.{Reg, Slot}
use Rattle.sch_word.specs.values.Literals.{count_literals}
use Rattle.sch_word.specs.trees.NumberSets.{has, without_repeats}
use Rattle.sch_word.specs.values.Registers.{argument_registers, body_registers}
use Rattle.sch_word.specs.runs.Runs.{statics_valid, statics_in_range}
use Rattle.sch_word.specs.trees.Shape.{max_operands}
use Rattle.sch_control.specs.declared.body.Entry.{Entry}
use Rattle.sch_control.specs.declared.operation.Atom.{Atom}
use Rattle.sch_control.specs.declared.operation.Atom.TheVariants.{Variable}
use Rattle.sch_control.specs.declared.operation.Member.{Member}
use Rattle.sch_control.specs.AtomsAndSites.{operation_atoms, member_atoms}
use Rattle.sch_control.specs.Valid.{operation_shaped, group_shaped, entry_shaped, operation_known, group_known, Names, without_fields}
use Rattle.sch_frames.specs.declared.instruction.Instruction.{Instruction}
use Rattle.sch_frames.specs.declared.instruction.Instruction.TheVariants.{Do, Store, Copy, Pass, Fix, Call, Tail, IfFalse, Jump, Label}
use Rattle.sch_word.specs.values.Places.{is_slot}
use Rattle.sch_control.specs.flow.Places.{formals_of}
use Rattle.sch_frames.specs.Tree.{Code, Source}
use Rattle.sch_frames.specs.Run.{entries_of}

-- ## Places

abbrev pub max_words : ℕ
max_words = 2048

abbrev pub is_register : ℕ → Bool
is_register r = has r body_registers

-- how many members of a group come into slots
abbrev pub in_slots : List (Member Place) → ℕ
in_slots [] = 0
in_slots (m ∷ members) = cond (is_slot m.at) (suc (in_slots members)) (in_slots members)

module _ (words : ℕ) where
  abbrev pub is_place : Place → Bool
  is_place (Reg r) = is_register r
  is_place (Slot j) = nat_lt j words

  abbrev pub is_atom : Atom Place → Bool
  is_atom (Variable p) = is_place p
  is_atom _ = true

  abbrev pub are_members : List (Member Place) → Bool
  are_members [] = true
  are_members (m ∷ members) = is_place m.at && are_members members

  -- n operands are in registers or in slots of a frame
  abbrev pub handed_over : ℕ → Bool
  handed_over count = nat_le count (length argument_registers + words)

  abbrev pub instruction_placed : Instruction → Bool
  instruction_placed (Do o) = list_all is_atom (operation_atoms o)
  instruction_placed (Store p) = is_place p
  instruction_placed (Copy to from) = not (is_slot to && is_slot from) && (is_place to && is_place from)
  instruction_placed (Pass k) = nat_lt k words
  instruction_placed (Fix members spills) = nat_eq (length spills) (in_slots members) && (are_members members && list_all is_atom (member_atoms members))
  instruction_placed (Call spread count) = handed_over count
  instruction_placed (Tail spread count) = handed_over count
  instruction_placed _ = true

-- whether a body is a procedure's, which is entered
abbrev pub is_entered : Option Entry → Bool
is_entered e = is_some e

abbrev pub placed : Option Entry → (words : ℕ) → List Instruction → Bool
placed entry words instructions =
    nat_le words max_words && (handed_over words (formals_of entry) && list_all (instruction_placed words) instructions)

-- ## Labels

abbrev pub labels_in : List Instruction → List ℕ
labels_in [] = []
labels_in (Label l ∷ instructions) = l ∷ labels_in instructions
labels_in (_ ∷ instructions) = labels_in instructions

-- each jump goes to a label that stands behind it
abbrev pub jumps_ahead : List Instruction → Bool
jumps_ahead [] = true
jumps_ahead (IfFalse l ∷ instructions) = has l (labels_in instructions) && jumps_ahead instructions
jumps_ahead (Jump l ∷ instructions) = has l (labels_in instructions) && jumps_ahead instructions
jumps_ahead (_ ∷ instructions) = jumps_ahead instructions

abbrev pub forward : (labels : ℕ) → List Instruction → Bool
forward labels instructions =
    list_all (λ l. nat_lt l labels) (labels_in instructions) && (without_repeats (labels_in instructions) && jumps_ahead instructions)

-- ## Shape

-- a call has at most 200 operands, and one at least where its last is spread
abbrev pub call_shaped : Bool → ℕ → Bool
call_shaped spread count = nat_le count max_operands && (not spread || nat_le 1 count)

abbrev pub instruction_shaped : Instruction → Bool
instruction_shaped (Do o) = operation_shaped o
instruction_shaped (Fix members spills) = group_shaped members
instruction_shaped (Call spread count) = call_shaped spread count
instruction_shaped (Tail spread count) = call_shaped spread count
instruction_shaped _ = true

abbrev pub shaped : Option Entry → List Instruction → Bool
shaped entry instructions = entry_shaped entry && list_all instruction_shaped instructions

-- all that the type of a body keeps
abbrev pub code_valid : Code → Bool
code_valid c = placed c.entry c.words c.instructions && (forward c.labels c.instructions && shaped c.entry c.instructions)

-- ## Programs

abbrev pub names_of : Source → Names
names_of p = record {
  symbols = length p.statics.symbols;
  literals = count_literals p.statics.literals;
  globals = length p.statics.globals;
  entries = entries_of p.bodies;
}

abbrev pub instruction_known : Names → Instruction → Bool
instruction_known names (Do o) = operation_known names o
instruction_known names (Fix members spills) = group_known names members
instruction_known names _ = true

abbrev pub all_known : Source → Bool
all_known p = list_all (λ c. list_all (instruction_known (names_of p)) c.instructions) p.bodies

abbrev pub all_within : Source → Bool
all_within p = nat_le p.words max_words && list_all (λ c. nat_le c.words p.words) p.bodies

abbrev pub library_known : Source → Bool
library_known p = without_fields (entries_of p.bodies) p.library

abbrev pub statics_known : Source → Bool
statics_known p = statics_valid (length p.library) p.statics && statics_in_range p.statics

-- all that the type of a program keeps beside the validity of its bodies
abbrev pub is_valid : Source → Bool
is_valid p = all_known p && (all_within p && (library_known p && statics_known p))
