-- A whole program: its items, and the zeros behind its words.
use Rattle.std.specs.Prelude.{ℕ, suc, ◌+◌, ◌-◌, ◌*◌, Bool, true, false, List, [], ◌∷◌, length, pos, Option, Some}
use Rattle.std.specs.Prelude.{None}
use Rattle.sch_word.specs.values.Literals.{count_literals}
use Rattle.sch_control.specs.declared.body.Entry.{Entry}
use Rattle.sch_frames.specs.Tree.{Code, Source}
use Rattle.sch_insn.specs.declared.insn.Insn.TheVariants.{MovWord}
use Rattle.sch_asm.specs.declared.item.Item.{Item}
use Rattle.sch_asm.specs.declared.item.Item.TheVariants as item
use Rattle.sch_asm.specs.Narrow.{narrowed}
use Rattle.sch_word.specs.declared.mark.MarkKind.TheVariants.{Enter}
use Rattle.sch_word.specs.declared.registers.TheConstants.{DEPTH_REGISTER, FRAME_REGISTER, HEAP_REGISTER}
use Rattle.sch_asm.specs.declared.routine.Routine.TheVariants as routine
use Rattle.sch_asm.specs.Routines.{label_of}
use Rattle.sch_select_memory.specs.Addresses.{body_label}
use Rattle.sch_select_memory.specs.RestCode.{rest_entry}
use Rattle.sch_select_operations.specs.CallCode.{check_count}
use Rattle.sch_select_data.specs.Data.{heap_of}
use Rattle.sch_select.specs.Select.{all_labels_needed, body_code}

-- ## The bodies, in their order

-- where the labels of the next body begin
abbrev pub labels_end : (n : ℕ) → Code → ℕ
labels_end n c = n + c.labels + 2 + all_labels_needed c.instructions

-- how many labels of their own bodies have: those of their jumps, the one behind each, one for a list, and those of instructions
abbrev pub own_labels : List Code → ℕ
own_labels [] = 0
own_labels (c ∷ cs) = c.labels + 2 + all_labels_needed c.instructions + own_labels cs

-- these, and the one at which each begins
abbrev pub labels_of : List Code → ℕ
labels_of codes = length codes + own_labels codes

-- a procedure's body is jumped over where the forms are done
abbrev pub passed_code : Option Entry → (out : ℕ) → List Item → List Item
passed_code None out rest = rest
passed_code (Some e) out rest = item.Jump out ∷ rest

-- a procedure's body begins with a check, and with a rest variable with a list, for which the label n is its own
abbrev pub count_code : (rest : Bool) → (formals n : ℕ) → List Item → List Item
count_code false formals n rest = check_count formals rest
count_code true formals n rest = rest_entry (formals - 1) n rest

abbrev pub entry_code : Option Entry → (n : ℕ) → List Item → List Item
entry_code None n rest = rest
entry_code (Some e) n rest = count_code e.rest e.formals n rest

module _ (words heap_end literals : ℕ) where
  -- a body has its label and its mark in front, and a label behind it
  abbrev pub form_code : (label n : ℕ) → Code → List Item → List Item
  form_code label n c rest =
      passed_code c.entry (n + c.labels)
      (item.Label (body_label label)
      ∷ entry_code c.entry (n + c.labels + 1)
      (item.Mark (Enter label)
      ∷ body_code n (n + c.labels) words heap_end literals (n + c.labels + 2) c.instructions (item.Label (n + c.labels) ∷ rest)))

  -- each body has its number, and its own labels from n on
  abbrev pub forms_code : (label n : ℕ) → List Code → List Item → List Item
  forms_code label n [] rest = rest
  forms_code label n (c ∷ cs) rest = form_code label n c (forms_code (suc label) (labels_end n c) cs rest)

-- ## Sizes

-- the most bytes of a stack, but for its last frame (the project's own)
abbrev pub max_stack : ℕ
max_stack = 1073741824

-- the frames of a form and of the calls that may be pending
abbrev pub frames_bytes : (words depth : ℕ) → ℕ
frames_bytes words depth = 8 * (words * suc depth)

-- One more stands behind these, into which operands are handed over before the depth that is left is looked at.
abbrev pub stack_bytes : (words depth : ℕ) → ℕ
stack_bytes words depth = 8 * (words * depth) + 16 * words

-- ## The program

-- the labels of bodies' own are behind those of the bodies
abbrev pub own_label : Source → ℕ
own_label p = body_label (length p.bodies)

-- bodies, with their count, and what stands in front of them and behind
abbrev pub laid_code : (words heap_end literals heap depth count : ℕ) → List Code → List Item
laid_code words heap_end literals heap depth count bodies =
    item.Plain (MovWord FRAME_REGISTER (pos heap_end))
    ∷ (item.Plain (MovWord HEAP_REGISTER (pos heap))
    ∷ (item.Plain (MovWord DEPTH_REGISTER (pos depth))
    ∷ forms_code words heap_end literals 0 (body_label count) bodies
    (item.Jump (label_of routine.End) ∷ [])))

-- the items that its instructions are selected to
abbrev pub selected_code : Source → (heap depth : ℕ) → List Item
selected_code p heap depth = laid_code p.words (heap_of p + heap) (count_literals p.statics.literals) (heap_of p) depth (length p.bodies) p.bodies

-- and its items: each instruction has its shortest form
abbrev pub program_code : Source → (heap depth : ℕ) → List Item
program_code p heap depth = narrowed (selected_code p heap depth)

-- the heap and the stack
abbrev pub program_zeros : Source → (heap depth : ℕ) → ℕ
program_zeros p heap depth = heap + stack_bytes p.words depth
