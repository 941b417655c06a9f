-- What the status of a verb on a source follows from, where the words are its command.
use Rattle.std.proofs.Common.{◌≡◌, ◌≢◌, ℕ, List, Option, Some, None, refl}
use Rattle.sch_cli.specs.Compiles.{EndsCompile}
use Rattle.sch_cli.specs.Counts.{EndsCount}
use Rattle.sch_cli.specs.Images.{FollowsImage, IsStep}
use Rattle.sch_cli.specs.Lists.{EndsList}
use Rattle.sch_cli.specs.Prints.{EndsGen}
use Rattle.sch_cli.specs.Seen.{DiskChange, StreamChange}
use Rattle.sch_cli.specs.Sources.{CompletesCompile, CompletesRun, FollowsNumber, FollowsSource}
use Rattle.sch_cli.specs.Steps.{EndsRun, RunsSource, StepsImage}
use Rattle.sch_commands.specs.Command.{Command, IfCompile, IfCount, IfGen, IfList, IfRun, IfStep, compile, count, gen, list, run, step}
use Rattle.sch_cli.proofs.ImageStatus.{step_image}
use Rattle.sch_cli.proofs.NoImageStatus.{compile_is_other, list_is_other}
use Rattle.sch_cli.proofs.SourceStatus.{compile_completes, compile_source, count_source, gen_number, list_source, run_completes, run_source}

if_compile : (command : Option Command) (P Q : (source target : List ℕ) → (listing : Option (List ℕ)) → (heap depth : ℕ) → Type 0)
    → ((source target : List ℕ) (listing : Option (List ℕ)) (heap depth : ℕ) → P source target listing heap depth → Q source target listing heap depth)
    → IfCompile command P → IfCompile command Q
if_compile (Some (compile source target listing heap depth)) P Q f p = f source target listing heap depth p
if_compile (Some (run source heap depth steps)) P Q f p = tt
if_compile (Some (step image steps)) P Q f p = tt
if_compile (Some (gen number steps)) P Q f p = tt
if_compile (Some (list source heap depth)) P Q f p = tt
if_compile (Some (count source heap depth steps)) P Q f p = tt
if_compile None P Q f p = tt

if_run : (command : Option Command) (P Q : (source : List ℕ) → (heap depth steps : ℕ) → Type 0)
    → ((source : List ℕ) (heap depth steps : ℕ) → P source heap depth steps → Q source heap depth steps) → IfRun command P → IfRun command Q
if_run (Some (compile source target listing heap depth)) P Q f p = tt
if_run (Some (run source heap depth steps)) P Q f p = f source heap depth steps p
if_run (Some (step image steps)) P Q f p = tt
if_run (Some (gen number steps)) P Q f p = tt
if_run (Some (list source heap depth)) P Q f p = tt
if_run (Some (count source heap depth steps)) P Q f p = tt
if_run None P Q f p = tt

if_step : (command : Option Command) (P Q : (image : List ℕ) → (steps : ℕ) → Type 0)
    → ((image : List ℕ) (steps : ℕ) → P image steps → Q image steps) → IfStep command P → IfStep command Q
if_step (Some (compile source target listing heap depth)) P Q f p = tt
if_step (Some (run source heap depth steps)) P Q f p = tt
if_step (Some (step image steps)) P Q f p = f image steps p
if_step (Some (gen number steps)) P Q f p = tt
if_step (Some (list source heap depth)) P Q f p = tt
if_step (Some (count source heap depth steps)) P Q f p = tt
if_step None P Q f p = tt

if_list : (command : Option Command) (P Q : (source : List ℕ) → (heap depth : ℕ) → Type 0)
    → ((source : List ℕ) (heap depth : ℕ) → P source heap depth → Q source heap depth) → IfList command P → IfList command Q
if_list (Some (compile source target listing heap depth)) P Q f p = tt
if_list (Some (run source heap depth steps)) P Q f p = tt
if_list (Some (step image steps)) P Q f p = tt
if_list (Some (gen number steps)) P Q f p = tt
if_list (Some (list source heap depth)) P Q f p = f source heap depth p
if_list (Some (count source heap depth steps)) P Q f p = tt
if_list None P Q f p = tt

if_count : (command : Option Command) (P Q : (source : List ℕ) → (heap depth steps : ℕ) → Type 0)
    → ((source : List ℕ) (heap depth steps : ℕ) → P source heap depth steps → Q source heap depth steps) → IfCount command P → IfCount command Q
if_count (Some (compile source target listing heap depth)) P Q f p = tt
if_count (Some (run source heap depth steps)) P Q f p = tt
if_count (Some (step image steps)) P Q f p = tt
if_count (Some (gen number steps)) P Q f p = tt
if_count (Some (list source heap depth)) P Q f p = tt
if_count (Some (count source heap depth steps)) P Q f p = f source heap depth steps p
if_count None P Q f p = tt

if_gen : (command : Option Command) (P Q : (number steps : ℕ) → Type 0) → ((number steps : ℕ) → P number steps → Q number steps) → IfGen command P → IfGen command Q
if_gen (Some (compile source target listing heap depth)) P Q f p = tt
if_gen (Some (run source heap depth steps)) P Q f p = tt
if_gen (Some (step image steps)) P Q f p = tt
if_gen (Some (gen number steps)) P Q f p = f number steps p
if_gen (Some (list source heap depth)) P Q f p = tt
if_gen (Some (count source heap depth steps)) P Q f p = tt
if_gen None P Q f p = tt

-- ---- what is said of the end of each verb

module _ (command : Option Command) (status : ℕ) (disk : DiskChange) (err out : StreamChange) where
  abbrev pub CompileEnds : (source target : List ℕ) → (listing : Option (List ℕ)) → (heap depth : ℕ) → Type 0
  CompileEnds source target listing heap depth = EndsCompile source target listing heap depth status disk err

  abbrev pub RunEnds : (source : List ℕ) → (heap depth steps : ℕ) → Type 0
  RunEnds source heap depth steps = EndsRun source status disk err (RunsSource source heap depth steps disk out)

  abbrev pub StepEnds : (image : List ℕ) → (steps : ℕ) → Type 0
  StepEnds image steps = EndsRun image status disk err (StepsImage image steps disk out)

  abbrev pub ListEnds : (source : List ℕ) → (heap depth : ℕ) → Type 0
  ListEnds source heap depth = EndsList source heap depth status disk err out

  abbrev pub CountEnds : (source : List ℕ) → (heap depth steps : ℕ) → Type 0
  CountEnds source heap depth steps = EndsCount source heap depth steps status disk err out

  abbrev pub GenEnds : (number steps : ℕ) → Type 0
  GenEnds number steps = EndsGen number steps status err out

  pub compile_verdict : IfCompile command CompileEnds → IfCompile command (λ source target listing heap depth. FollowsSource source depth status disk)
  compile_verdict =
      if_compile command CompileEnds (λ source target listing heap depth. FollowsSource source depth status disk)
      (λ source target listing heap depth. compile_source source heap depth disk target listing status err)

  pub run_verdict : IfRun command RunEnds → IfRun command (λ source heap depth steps. FollowsSource source depth status disk)
  run_verdict =
      if_run command RunEnds (λ source heap depth steps. FollowsSource source depth status disk)
      (λ source heap depth steps. run_source source heap depth disk steps status err out)

  pub step_verdict : IfStep command StepEnds → IfStep command (λ image steps. FollowsImage image steps status disk out)
  step_verdict =
      if_step command StepEnds (λ image steps. FollowsImage image steps status disk out)
      (λ image steps. step_image steps disk out image status err)

  pub list_verdict : IfList command ListEnds → IfList command (λ source heap depth. FollowsSource source depth status disk)
  list_verdict =
      if_list command ListEnds (λ source heap depth. FollowsSource source depth status disk)
      (λ source heap depth. list_source source heap depth disk status err out)

  pub count_verdict : IfCount command CountEnds → IfCount command (λ source heap depth steps. FollowsSource source depth status disk)
  count_verdict =
      if_count command CountEnds (λ source heap depth steps. FollowsSource source depth status disk)
      (λ source heap depth steps. count_source source heap depth disk steps status err out)

  pub figures_verdict : IfGen command GenEnds → IfGen command (λ number steps. FollowsNumber number status disk)
  figures_verdict =
      if_gen command GenEnds (λ number steps. FollowsNumber number status disk)
      (λ number steps. gen_number number steps status disk err out)

  pub compile_complete : IfCompile command CompileEnds → IfCompile command (λ source target listing heap depth. CompletesCompile source target listing heap depth status disk)
  compile_complete =
      if_compile command CompileEnds (λ source target listing heap depth. CompletesCompile source target listing heap depth status disk)
      (λ source target listing heap depth. compile_completes source heap depth disk target listing status err)

  pub run_complete : IfRun command RunEnds → IfRun command (λ source heap depth steps. CompletesRun source heap depth steps status disk out)
  run_complete =
      if_run command RunEnds (λ source heap depth steps. CompletesRun source heap depth steps status disk out)
      (λ source heap depth steps. run_completes source heap depth disk steps out status err)

-- ---- a command that ends with 8

pub step_alone : (command : Option Command) (status : ℕ) (disk : DiskChange) (err out : StreamChange) → (command ≡ None → status ≢ 8)
    → IfCompile command (CompileEnds command status disk err out) → IfRun command (λ source heap depth steps. status ≢ 8)
    → IfList command (ListEnds command status disk err out) → IfCount command (λ source heap depth steps. status ≢ 8)
    → IfGen command (λ number steps. status ≢ 8) → status ≡ 8 → IsStep command
step_alone (Some (compile source target listing heap depth)) status disk err out none compiled ran listed counted made e =
    compile_is_other source target listing heap depth status disk err compiled e
step_alone (Some (run source heap depth steps)) status disk err out none compiled ran listed counted made e = ran e
step_alone (Some (step image steps)) status disk err out none compiled ran listed counted made e = tt
step_alone (Some (gen number steps)) status disk err out none compiled ran listed counted made e = made e
step_alone (Some (list source heap depth)) status disk err out none compiled ran listed counted made e =
    list_is_other source heap depth status disk err out listed e
step_alone (Some (count source heap depth steps)) status disk err out none compiled ran listed counted made e = counted e
step_alone None status disk err out none compiled ran listed counted made e = none refl e
