-- A text that is compiled and run where no answers of the kernel are held ready.
use Rattle.std.specs.Prelude.{◌≡◌, ℕ, List, []}
use Rattle.sch_word.specs.runs.Runs.{ended}
use Rattle.sch_elf.specs.declared.image.Image.{Image}
use Rattle.sch_elf.specs.Stands.{StandsFor}
use Rattle.sch_lang.specs.Run.{run}
use Rattle.sch_step.specs.declared.ends.RunEnd.{RunEnd}
use Rattle.sch_step.specs.declared.ends.RunEnd.TheVariants as run_end
use Rattle.sch_cli.specs.Builds.{IsFileOf}
use Rattle.sch_cli.specs.Executes.{EndsUnder}
use Rattle.sch_cli.specs.Refusals.{IsRefused}
use Rattle.sch_cli.specs.declared.failure.Failure.{Failure}
use Rattle.sch_cli.specs.declared.failure.Failure.TheVariants.{StepsSpent}

-- The image of a file that is compiled of the text, under these limits, ends so after at most these steps, and writes this
-- output.
pub record RunsAlone (text : List ℕ) (heap depth steps : ℕ) (end : RunEnd) (output : List ℕ) : Type 0 where
  pub file : List ℕ
  pub made : IsFileOf text heap depth file
  pub image : Image
  pub stands : StandsFor file image
  pub ends : EndsUnder image steps [] end output

-- Such an image exits within these steps; its status and its output are those of the program's run.
pub record ExitsAlone (text : List ℕ) (heap depth steps status : ℕ) (output : List ℕ) : Type 0 where
  pub runs : RunsAlone text heap depth steps (run_end.Exited status) output
  pub end : (run runs.made.compiled.program runs.made.listing.orders heap depth [] steps).end ≡ ended status
  pub puts : (run runs.made.compiled.program runs.made.listing.orders heap depth [] steps).output ≡ output

-- Its steps are spent without an end.
pub record SpendsSteps (text : List ℕ) (heap depth steps : ℕ) : Type 0 where
  pub output : List ℕ
  pub runs : RunsAlone text heap depth steps run_end.Spent output

-- It comes to no exit: the steps are spent, or the text is refused.
abbrev pub HasNoExit : (text : List ℕ) → (heap depth steps : ℕ) → Failure → Type 0
HasNoExit text heap depth steps StepsSpent = SpendsSteps text heap depth steps
HasNoExit text heap depth steps failure = IsRefused text depth failure
