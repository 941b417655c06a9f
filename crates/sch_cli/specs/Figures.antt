-- The figures of a program that is made of a number, compiled and run, and the text in which `gen` prints them.
use Rattle.std.specs.Prelude.{◌≡◌, ℕ, List, ◌++◌, codes, length}
use Rattle.sch_commands.specs.Command.{default_depth, default_heap}
use Rattle.sch_listing.specs.Lines.{number_line}
use Rattle.sch_cli.specs.LoneRuns.{ExitsAlone, HasNoExit}
use Rattle.sch_cli.specs.declared.failure.Failure.{Failure}
use Rattle.sch_cli.specs.declared.figures.Figures.{Figures}

-- The figures are those of one file that is compiled of the text, under the default limits, with its listing. Its image exits
-- within these steps.
pub record AreFiguresOf (text : List ℕ) (steps : ℕ) (figures : Figures) : Type 0 where
  pub output : List ℕ
  pub exits : ExitsAlone text default_heap default_depth steps figures.status output
  pub source_size : figures.source ≡ length text
  pub image_size : figures.image ≡ length exits.runs.file
  pub instructions : figures.instructions ≡ exits.runs.made.listing.instructions
  pub output_size : figures.output ≡ length output

-- There are no figures: the steps are spent, or the text is refused.
abbrev pub HasNoFigures : (text : List ℕ) → (steps : ℕ) → Failure → Type 0
HasNoFigures text steps failure = HasNoExit text default_heap default_depth steps failure

-- ---- the text

abbrev pub figures_text : Figures → List ℕ
figures_text figures =
    number_line (codes "source") figures.source
    ++ (number_line (codes "image") figures.image
    ++ (number_line (codes "instructions") figures.instructions
    ++ (number_line (codes "output") figures.output
    ++ number_line (codes "status") figures.status)))
