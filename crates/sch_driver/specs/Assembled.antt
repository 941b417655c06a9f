-- What an image owes to the control program that it is made of.
use Rattle.std.specs.Prelude.{◌≡◌, ◌<◌, ◌≤◌, ◌+◌, ◌*◌, ℕ, suc, List, length, Some}
use Rattle.std.specs.List.{flat_map}
use Rattle.sch_word.specs.declared.answer.Answer.{Answer}
use Rattle.sch_word.specs.runs.Runs.{Run}
use Rattle.sch_word.specs.trees.Shape.{max_operands}
use Rattle.sch_word.specs.runs.ProgramLayout.{data_address, max_text_size, text_address}
use Rattle.sch_insn.specs.Behaves.{FollowsRuns}
use Rattle.sch_insn.specs.Spelling.{spelling}
use Rattle.sch_asm.specs.declared.error.AsmError.{AsmError}
use Rattle.sch_asm.specs.declared.error.AsmError.TheVariants as asm
use Rattle.sch_asm.specs.declared.item.Mark.{Mark}
use Rattle.sch_asm.specs.Stands.{marks_at}
use Rattle.sch_elf.specs.declared.image.Image.{Image}
use Rattle.sch_elf.specs.Layout.{memory}
use Rattle.sch_control.specs.Sizes.{most_variables, tests_of}
use Rattle.sch_control.specs.Valid.{sites_of_each}
use Rattle.sch_control.specs.Work.{codes_work}
use Rattle.sch_control.specs.Tree.{Source}
use Rattle.sch_control.specs.Run.{run}
use Rattle.sch_registers.specs.Registers.{registers_words}
use Rattle.sch_frames.specs.Valid.{max_words}
use Rattle.sch_select_data.specs.Data.{heap_of}
use Rattle.sch_select.specs.Ends.{EndsWithin}
use Rattle.sch_select.specs.Program.{frames_bytes, max_stack, stack_bytes}
use Rattle.sch_driver.specs.Causes.{text_base}
use Rattle.sch_driver.specs.Framed.{IsMarked, framed, framed_size}
use Rattle.sch_driver.specs.Headline.{HasProgramLayout}
use Rattle.sch_driver.specs.LazySaves.{SavesLazily}
use Rattle.sch_driver.specs.StoreMarks.{StoresMarked}
use Rattle.sch_driver.specs.declared.error.CompileError.{CompileError}
use Rattle.sch_driver.specs.declared.error.CompileError.TheVariants.{TextTooLarge, StackTooLarge, Memory}

-- the most bytes of the text, by the work in the control program: what there is to do, with 64 for a unit of it, and copies, with 8
-- for each, are within 72 for each unit
abbrev pub assembled_bound : Source → ℕ
assembled_bound p = text_base + 72 * codes_work p.bodies

-- the most labels of what is selected: twelve for each site, two for each test and three for each body
abbrev pub labels_bound : Source → ℕ
labels_bound p = 12 * length (sites_of_each p.bodies) + (2 * tests_of p.bodies + 3 * length p.bodies)

-- The most steps that a machine takes for a run that has ended: 768 for each instruction of its text, once for each
-- procedure entry of the run and once more, 10 for each answer that the run used, and 8 for each byte that it charged.
abbrev pub steps_of : (instructions entries answers charged : ℕ) → ℕ
steps_of instructions entries answers charged = 768 * instructions * suc entries + 10 * answers + 8 * charged

-- The words of the largest frame: slots for operands that are set aside and for formals past the sixth, for variables that find no
-- register, and for those that are saved.
pub record IsFrameSize (p : Source) (words : ℕ) : Type 0 where
  pub largest : words ≡ registers_words p.bodies
  pub few : words ≤ max_words
  pub bound : words ≤ max_operands + most_variables p.bodies

-- The image is laid out as a program's, with this number of instructions. Its words end where the heap begins, and behind
-- them it has room for the heap and for frames of this number of words at this depth. Where the control program is never
-- wrong, it follows its runs, has exited within a bound of steps where one has ended, its marks are these, and its activations
-- save lazily. Each write of memory through the frame's register has its mark.
pub record IsAssembled (p : Source) (heap depth frame_words instructions : ℕ) (marks : List Mark) (image : Image) : Type 0 where
  pub laid_out : HasProgramLayout image
  pub counted : instructions ≡ length laid_out.code
  pub size : length (flat_map spelling laid_out.code) ≡ framed_size p
  pub bound : length (flat_map spelling laid_out.code) ≤ assembled_bound p
  pub words_end : data_address + length laid_out.words ≡ heap_of (framed p)
  pub room : laid_out.zeros ≡ heap + stack_bytes frame_words depth
  pub frame : IsFrameSize p frame_words
  pub fits : frames_bytes frame_words depth ≤ max_stack
  pub follows : (runs : List Answer → ℕ → Run)
      → ((answers : List Answer) (entries : ℕ) → run p heap depth answers entries ≡ Some (runs answers entries))
      → FollowsRuns image.entry (memory image.segments) runs
  pub ends : (runs : List Answer → ℕ → Run)
      → ((answers : List Answer) (entries : ℕ) → run p heap depth answers entries ≡ Some (runs answers entries))
      → EndsWithin image.entry (memory image.segments) runs (steps_of instructions)
  pub marked : (runs : List Answer → ℕ → Run)
      → ((answers : List Answer) (entries : ℕ) → run p heap depth answers entries ≡ Some (runs answers entries))
      → IsMarked image laid_out.code marks (framed p) heap depth runs
  pub stores : StoresMarked (marks_at marks) text_address laid_out.code
  pub lazily : (runs : List Answer → ℕ → Run)
      → ((answers : List Answer) (entries : ℕ) → run p heap depth answers entries ≡ Some (runs answers entries))
      → SavesLazily image.entry (memory image.segments) (marks_at marks)

-- The text of a control program has this number of bytes, which is more than it may have; its frames fit the stack at
-- a depth.
pub record HasLargeText (p : Source) (depth bytes : ℕ) : Type 0 where
  pub words : ℕ
  pub frame : IsFrameSize p words
  pub fits : frames_bytes words depth ≤ max_stack
  pub large : max_text_size < bytes
  pub size : bytes ≡ framed_size p
  pub bound : bytes ≤ assembled_bound p

-- Why there is no image of a control program at a depth: the frames of its calls would take too much; or else its text
-- would be too large; or there was no memory.
abbrev pub IsUnfit : Source → (depth : ℕ) → CompileError → Type 0
IsUnfit p depth (StackTooLarge words) = (max_stack < frames_bytes words depth) × IsFrameSize p words
IsUnfit p depth (TextTooLarge bytes) = HasLargeText p depth bytes
IsUnfit p depth Memory = Unit {0}
IsUnfit p depth _ = ⊥

-- the error of a text that is not resolved
abbrev pub of_assembly : AsmError → CompileError
of_assembly (asm.TextTooLarge bytes) = TextTooLarge bytes
of_assembly asm.Memory = Memory
