-- The frame program of a control program, the size of its text, and the marks that are listed of its image.
use Rattle.std.specs.Prelude.{◌++◌, ◌+◌, ℕ, List, map}
use Rattle.sch_word.specs.declared.answer.Answer.{Answer}
use Rattle.sch_word.specs.runs.ProgramLayout.{text_address}
use Rattle.sch_word.specs.runs.Runs.{Run}
use Rattle.sch_insn.specs.declared.insn.Insn.{Insn}
use Rattle.sch_asm.specs.declared.item.Mark.{Mark}
use Rattle.sch_asm.specs.Codes.{Codes}
use Rattle.sch_asm.specs.Pieces.{shortest_size}
use Rattle.sch_asm.specs.Stands.{marks_at}
use Rattle.sch_elf.specs.declared.image.Image.{Image}
use Rattle.sch_elf.specs.Layout.{memory}
use Rattle.sch_control.specs.Tree as control
use Rattle.sch_frames.specs.Run.{entries_of}
use Rattle.sch_registers.specs.Registers.{registers_code, registers_words}
use Rattle.sch_frames.specs.Tree as frames
use Rattle.sch_runtime.specs.Code.{all_routines}
use Rattle.sch_select_data.specs.Data.{heap_of}
use Rattle.sch_select.specs.Follows.{AreRuns}
use Rattle.sch_select.specs.Marks.{CountsEntries, PassesMarks, TakesWays, marks_passed}
use Rattle.sch_select.specs.Program.{program_code}

-- a control program, laid out with the variables of each body in registers while there are any
abbrev pub framed : control.Source → frames.Source
framed q = record { statics = q.statics; library = q.library; bodies = map registers_code q.bodies; words = registers_words q.bodies }

-- The bytes of its text: those of its items and of the run-time routines, with jumps as short as they can be. It is as
-- long whatever the limits of heap and depth are.
abbrev pub framed_size : control.Source → ℕ
framed_size q = shortest_size (program_code (framed q) 0 0 ++ all_routines (heap_of (framed q)))

-- The marks of an image with this text are those of a frame program that has these runs, under limits of heap and
-- depth: the text is that of its items and of the routines, and each mark stands at the instruction behind it. The machine of the image passes those that the frame program
-- passes, in their order, each as the instruction of its address begins. Where it has exited it has passed one of an
-- entry for each entry of a procedure that the run took, and at the program's end one for each form. The own marks of
-- each activation that has ended by a return or a tail call are those on one way through its body.
pub record IsMarked (image : Image) (code : List Insn) (marks : List Mark) (f : frames.Source) (heap depth : ℕ)
    (runs : List Answer → (entries : ℕ) → Run) : Type 0 where
  pub coded : (place_of : ℕ → ℕ) × Codes place_of text_address (program_code f heap depth ++ all_routines (heap_of f + heap)) code marks
  pub frames_run : AreRuns f heap depth runs
  pub passes : PassesMarks image.entry (memory image.segments) (marks_at marks) (marks_passed f heap depth)
  pub enters : CountsEntries image.entry (memory image.segments) (marks_at marks) (entries_of f.bodies) runs
  pub takes : TakesWays image.entry (memory image.segments) (marks_at marks) f.bodies
