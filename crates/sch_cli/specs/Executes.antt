-- What it is to run an image over an outlet, of at most n steps.
use Rattle.std.specs.Prelude.{◌≡◌, ◌++◌, ℕ, List, [], length, All}
use Rattle.sch_word.specs.declared.answer.Answer.{Answer}
use Rattle.sch_io.specs.Told.{Tells}
use Rattle.sch_elf.specs.declared.image.Image.{Image}
use Rattle.sch_elf.specs.Layout.{memory}
use Rattle.sch_insn.specs.Machine.{State}
use Rattle.sch_insn.specs.Step.{Progress, Runs, Exited, Stuck, mach}
use Rattle.sch_insn.specs.Behaves.{output_of, start, zeros}
use Rattle.sch_word.specs.runs.Answers.{TakesNothing}
use Rattle.sch_step.specs.declared.ends.RunEnd.{RunEnd}
use Rattle.sch_step.specs.declared.ends.RunEnd.TheVariants as run_end
use Rattle.sch_cli.specs.Seen.{StreamChange, BytesChange, StreamFailed}
use Rattle.sch_cli.specs.declared.generated.LoneRun.{LoneRun}

-- The machine of an image at its start: every register is 0, the flags are unknown, and there are no
-- spare words.
abbrev pub started : Image → List Answer → State
started image answers = start image.entry (memory image.segments) zeros answers

-- how a run ended that has come to this
abbrev pub run_end_of : Progress → RunEnd
run_end_of (Runs s) = run_end.Spent
run_end_of (Exited status s) = run_end.Exited status
run_end_of (Stuck cause s) = run_end.Stuck (record { at = s.core.place; cause = cause })

-- Under these answers of the kernel the image ends so, and has written these bytes.
pub record EndsUnder (image : Image) (steps : ℕ) (answers : List Answer) (end : RunEnd) (output : List ℕ) : Type 0 where
  pub end_is : run_end_of (mach steps (started image answers)) ≡ end
  pub output_is : output_of (mach steps (started image answers)) ≡ output

-- Where no answers of the kernel are held ready the image ends so, and has written as many bytes.
pub record EndsAlone (image : Image) (steps : ℕ) (lone : LoneRun) : Type 0 where
  pub output : List ℕ
  pub ends : EndsUnder image steps [] lone.end output
  pub size : lone.output ≡ length output

-- The image was run over an outlet: under the answers that the outlet held ready, where it tells them, and under some answers,
-- of which one takes nothing only where the outlet failed. The outlet took the output.
pub record Executes (image : Image) (steps : ℕ) (end : RunEnd) (out : StreamChange) : Type 0 where
  pub output : List ℕ
  pub given : List Answer
  pub under_given : EndsUnder image steps given end output
  pub under_left : Tells out.before.left out.after.left (λ before after. EndsUnder image steps before end output)
  pub took : BytesChange out (λ before after. after ≡ before ++ output)
  pub refused : All (λ answer. TakesNothing answer → StreamFailed out) given
