-- Sizes of instructions and of frames, and how much there is to do in them.
use Rattle.std.specs.Prelude.{ℕ, suc, ◌+◌, max, Bool, false, cond, List, [], ◌∷◌, length}
use Rattle.std.specs.List.{list_any}
use Rattle.sch_word.specs.trees.Shape.{max_operands}
use Rattle.sch_control.specs.RegisterWork.{entry_done}
use Rattle.sch_control.specs.AtomsAndSites.{member_atoms}
use Rattle.sch_control.specs.Sizes.{operation_size}
use Rattle.sch_frames.specs.declared.instruction.Instruction.{Instruction}
use Rattle.sch_frames.specs.declared.instruction.Instruction.TheVariants.{Do, Store, Copy, Pass, Fix, Call, Tail, Label, Mark}
use Rattle.sch_frames.specs.Tree.{Code, Source}

-- ## Frames

-- the size of the largest frame of some bodies, and 0 where there are none
abbrev pub largest_frame : List Code → ℕ
largest_frame [] = 0
largest_frame (c ∷ codes) = max c.words (largest_frame codes)

-- whether an instruction is a call that spreads its last operand
abbrev pub spreads : Instruction → Bool
spreads (Call spread count) = spread
spreads (Tail spread count) = spread
spreads _ = false

abbrev pub code_spreads : Code → Bool
code_spreads c = list_any spreads c.instructions

-- the fewest words that the largest frame counts with where a call spreads its last operand: those of the most operands,
-- and 16
abbrev pub spread_words : ℕ
spread_words = max_operands + 16

-- The words that the largest frame of some bodies counts with: a list that is spread needs more than its frame may have.
abbrev pub frame_words : List Code → ℕ
frame_words codes = cond (list_any code_spreads codes) (max (largest_frame codes) spread_words) (largest_frame codes)

-- ## Instructions

-- One for each instruction, with what its operation has. Labels and marks are nothing that is done, and copies are
-- counted apart.
abbrev pub instruction_size : Instruction → ℕ
instruction_size (Do o) = suc (operation_size o)
instruction_size (Store p) = 0
instruction_size (Copy to from) = 0
instruction_size (Pass k) = 0
instruction_size (Fix members spills) = suc (length (member_atoms members))
instruction_size (Label l) = 0
instruction_size (Mark m) = 0
instruction_size _ = 1

abbrev pub instructions_size : List Instruction → ℕ
instructions_size [] = 0
instructions_size (i ∷ instructions) = instruction_size i + instructions_size instructions

abbrev pub codes_size : List Code → ℕ
codes_size [] = 0
codes_size (c ∷ codes) = instructions_size c.instructions + codes_size codes

-- the size of a program's instructions
abbrev pub program_size : Source → ℕ
program_size p = codes_size p.bodies

-- ## Closures, calls and procedures

-- the closures that groups make, and the calls that are no tail calls
abbrev pub grouped : List Instruction → ℕ
grouped [] = 0
grouped (Fix members spills ∷ instructions) = length members + grouped instructions
grouped (Call spread count ∷ instructions) = suc (grouped instructions)
grouped (_ ∷ instructions) = grouped instructions

-- the closures that groups make, these calls, and the procedures
abbrev pub closures_in : List Code → ℕ
closures_in [] = 0
closures_in (c ∷ codes) = entry_done c.entry + (grouped c.instructions + closures_in codes)

-- what there is to do in a body, with its closures, its calls and the jump over it
abbrev pub code_work : Code → ℕ
code_work c = instructions_size c.instructions + grouped c.instructions + entry_done c.entry

-- the same of all bodies of a program
abbrev pub program_work : Source → ℕ
program_work p = program_size p + closures_in p.bodies

-- ## Copies

-- the instructions that copy one word and do no more, between the accumulator, a register and a slot
abbrev pub instruction_copies : Instruction → ℕ
instruction_copies (Store p) = 1
instruction_copies (Copy to from) = 1
instruction_copies (Pass k) = 1
instruction_copies _ = 0

abbrev pub copies_of : List Instruction → ℕ
copies_of [] = 0
copies_of (i ∷ instructions) = instruction_copies i + copies_of instructions

abbrev pub codes_copies : List Code → ℕ
codes_copies [] = 0
codes_copies (c ∷ codes) = copies_of c.instructions + codes_copies codes

abbrev pub program_copies : Source → ℕ
program_copies p = codes_copies p.bodies
