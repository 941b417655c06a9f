-- A text that is run where no answers of the kernel are held ready: it ends as its program does, or its steps are spent.
use Rattle.std.proofs.Common.{◌≡◌, ◌≤◌, ℕ, List, [], ◌++◌, length, Bool, true, false, if◌then◌else◌, drop, Option, Some, None, Ok, Err, refl, ap, ◌∙◌, subst}
use Rattle.sch_word.specs.declared.answer.Answer.{Answer}
use Rattle.sch_word.specs.runs.Runs.{ended}
use Rattle.sch_io.specs.InMemory.{faults_met, told_bytes, told_left}
use Rattle.sch_io.specs.Told.{Tells}
use Rattle.sch_io.specs.declared.mem_outlet.MemOutlet.{MemOutlet}
use Rattle.sch_elf.specs.declared.image.Image.{Image}
use Rattle.sch_elf.specs.Stands.{StandsFor}
use Rattle.sch_insn.specs.Step.{Progress, Runs, Exited, Stuck, mach}
use Rattle.sch_insn.specs.Behaves.{exit_of, output_of, zeros}
use Rattle.sch_lang.specs.Run.{run}
use Rattle.sch_lang.specs.Tree as tree
use Rattle.sch_prelude.specs.LibraryText.{library_text}
use Rattle.sch_driver.specs.Causes.{max_source_size}
use Rattle.sch_driver.specs.Compiled.{IsCompiled}
use Rattle.sch_driver.specs.Headline.{IsImageOf}
use Rattle.sch_driver.proofs.RoundSteps as driver
use Rattle.sch_listing.specs.declared.listing.Listing.{Listing}
use Rattle.sch_count.specs.CountsText.{counts_text}
use Rattle.sch_count.specs.declared.counts.Counts.{Counts}
use Rattle.sch_count.specs.declared.error.CountError.TheVariants as count_error
use Rattle.sch_step.specs.declared.ends.RunEnd.{RunEnd}
use Rattle.sch_step.specs.declared.ends.RunEnd.TheVariants as run_end
use Rattle.sch_step.specs.declared.ends.Stuck as stuck_place
use Rattle.sch_cli.specs.Builds.{IsFileOf}
use Rattle.sch_commands.specs.Command.{default_depth, default_heap}
use Rattle.sch_cli.specs.Executes.{EndsAlone, EndsUnder, Executes, run_end_of, started}
use Rattle.sch_cli.specs.Counts.{CountsImage, IsCountsText}
use Rattle.sch_cli.specs.Figures.{AreFiguresOf}
use Rattle.sch_cli.specs.LoneRuns.{ExitsAlone, HasNoExit, RunsAlone, SpendsSteps}
use Rattle.sch_cli.specs.Refusals.{IsRefused}
use Rattle.sch_cli.specs.Seen.{stream_change}
use Rattle.sch_cli.specs.declared.failure.Failure.{Failure}
use Rattle.sch_cli.specs.declared.failure.Failure.TheVariants as failure
use Rattle.sch_cli.specs.declared.figures.Figures.{Figures}
use Rattle.sch_cli.specs.declared.generated.LoneRun.{LoneRun}
use Rattle.sch_cli.proofs.CompiledFiles.{does_text}

-- ---- an outlet in memory that still tells what it took

-- what an outlet tells while it tells
still_tells : (tells : Bool) (kept bytes : List ℕ) → (if tells then Some kept else None) ≡ Some bytes → (tells ≡ true) × (kept ≡ bytes)
still_tells true kept bytes is = (refl, cc)
still_tells false kept bytes is = absurd cc

-- it held no answers ready before
under_none : (image : Image) (steps : ℕ) (end : RunEnd) (output : List ℕ) (before : Option (List Answer)) (tells : Bool) (left : List Answer) → before ≡ Some [] → tells ≡ true
    → Tells before (if tells then Some left else None) (λ before after. EndsUnder image steps before end output) → EndsUnder image steps [] end output
under_none image steps end output (Some before) true left none on h =
    let is : before ≡ [] = cc in
    subst (λ answers. EndsUnder image steps answers end output) is h
under_none image steps end output None true left none on h = absurd cc
under_none image steps end output before false left none on h = absurd cc

-- it had taken nothing before
took_all : (before after : Option (List ℕ)) (bytes output : List ℕ) → before ≡ Some [] → after ≡ Some bytes → Tells before after (λ before after. after ≡ before ++ output) → bytes ≡ output
took_all (Some before) (Some after) bytes output none some h =
    let first : before ≡ [] = cc in
    let last : bytes ≡ after = cc in
    last ∙ h ∙ ap (λ bytes. bytes ++ output) first
took_all None (Some after) bytes output none some h = absurd cc
took_all before None bytes output none some h = absurd cc

pub lone_run : (image : Image) (steps : ℕ) (lone : LoneRun) (old new : MemOutlet) (bytes : List ℕ) → told_left old ≡ Some [] → told_bytes old ≡ Some [] → told_bytes new ≡ Some bytes
    → lone.output ≡ length bytes → Executes image steps lone.end (stream_change told_bytes told_left faults_met old new) → EndsAlone image steps lone
lone_run image steps lone old new bytes none empty told size executed =
    let tells = still_tells new.tells new.bytes.items bytes told in
    let took : bytes ≡ executed.output = took_all (told_bytes old) (told_bytes new) bytes executed.output empty told executed.took in
    record {
      output = executed.output;
      ends = under_none image steps lone.end executed.output (told_left old) new.tells (drop new.next new.plan.items) none tells.0 executed.under_left;
      size = size ∙ ap length took;
    }

-- ---- an image that does what a program means

exit_is : (q : Progress) (status : ℕ) (output : List ℕ) → run_end_of q ≡ run_end.Exited status → output_of q ≡ output → exit_of q ≡ Some (status, output)
exit_is (Runs s) status output end is = absurd cc
exit_is (Exited found s) status output end is =
    let same : found ≡ status = cc in
    ap (λ number. Some (number, s.output)) same ∙ ap (λ bytes. Some (status, bytes)) is
exit_is (Stuck cause s) status output end is = absurd cc

module _ (p : tree.Source) (table : List (List ℕ)) (heap depth : ℕ) (image : Image) (steps : ℕ) (output : List ℕ) (does : IsImageOf image p table heap depth) where
  ends_as : (status : ℕ) → EndsUnder image steps [] (run_end.Exited status) output → ((run p table heap depth [] steps).end ≡ ended status) × ((run p table heap depth [] steps).output ≡ output)
  ends_as status ends = (does.follows.runs.covered zeros [] steps).end status output (exit_is (mach steps (started image [])) status output ends.end_is ends.output_is)

  stuck_nowhere : (q : Progress) (stuck : stuck_place.Stuck) → mach steps (started image []) ≡ q → run_end_of q ≡ run_end.Stuck stuck → ⊥
  stuck_nowhere (Runs s) stuck at end = absurd cc
  stuck_nowhere (Exited status s) stuck at end = absurd cc
  stuck_nowhere (Stuck cause s) stuck at end = does.follows.runs.never_stuck zeros [] steps cause s at

  not_stuck : (stuck : stuck_place.Stuck) → EndsUnder image steps [] (run_end.Stuck stuck) output → ⊥
  not_stuck stuck ends = stuck_nowhere (mach steps (started image [])) stuck refl ends.end_is

-- ---- a text that is compiled and run

module _ (text file : List ℕ) (listing : Listing) (heap depth : ℕ) (short : length text ≤ max_source_size) (compiled : IsCompiled library_text text heap depth file listing)
    (image : Image) (stands : StandsFor file image) (steps : ℕ) (output : List ℕ) where
  abbrev made : IsFileOf text heap depth file
  made = record {
    short = short;
    listing = listing;
    compiled = compiled;
    in_time = driver.in_time library_text text heap depth file listing compiled;
  }

  does : IsImageOf image compiled.program listing.orders heap depth
  does = does_text text heap depth image (record { file = file; made = made; stands = stands })

  abbrev runs_alone : (end : RunEnd) → EndsUnder image steps [] end output → RunsAlone text heap depth steps end output
  runs_alone end ends = record { file = file; made = made; image = image; stands = stands; ends = ends }

  abbrev exits_alone : (status : ℕ) → EndsUnder image steps [] (run_end.Exited status) output → ExitsAlone text heap depth steps status output
  exits_alone status ends =
      let same = ends_as compiled.program listing.orders heap depth image steps output does status ends in
      record { runs = runs_alone (run_end.Exited status) ends; end = same.0; puts = same.1 }

  pub no_stuck_end : (stuck : stuck_place.Stuck) → EndsUnder image steps [] (run_end.Stuck stuck) output → ⊥
  no_stuck_end stuck ends = not_stuck compiled.program listing.orders heap depth image steps output does stuck ends

-- ---- its figures

module _ (text file : List ℕ) (listing : Listing) (short : length text ≤ max_source_size) (compiled : IsCompiled library_text text default_heap default_depth file listing)
    (image : Image) (stands : StandsFor file image) (steps : ℕ) (lone : LoneRun) (alone : EndsAlone image steps lone) where
  ends_so : (end : RunEnd) → lone.end ≡ end → EndsUnder image steps [] end alone.output
  ends_so end is = subst (λ end. EndsUnder image steps [] end alone.output) is alone.ends

  pub are_figures : (figures : Figures) → lone.end ≡ run_end.Exited figures.status → figures.source ≡ length text → figures.image ≡ length file → figures.instructions ≡ listing.instructions
      → figures.output ≡ lone.output → AreFiguresOf text steps figures
  are_figures figures end source size instructions written = record {
    output = alone.output;
    exits = exits_alone text file listing default_heap default_depth short compiled image stands steps alone.output figures.status (ends_so (run_end.Exited figures.status) end);
    source_size = source;
    image_size = size;
    instructions = instructions;
    output_size = written ∙ alone.size;
  }

  pub spends_steps : lone.end ≡ run_end.Spent → SpendsSteps text default_heap default_depth steps
  spends_steps end = record {
    output = alone.output;
    runs = runs_alone text file listing default_heap default_depth short compiled image stands steps alone.output run_end.Spent (ends_so run_end.Spent end);
  }

  pub never_stuck : (stuck : stuck_place.Stuck) → lone.end ≡ run_end.Stuck stuck → ⊥
  never_stuck stuck end = no_stuck_end text file listing default_heap default_depth short compiled image stands steps alone.output stuck (ends_so (run_end.Stuck stuck) end)

-- ---- its counts

module _ (text file : List ℕ) (listing : Listing) (heap depth : ℕ) (short : length text ≤ max_source_size) (compiled : IsCompiled library_text text heap depth file listing)
    (image : Image) (stands : StandsFor file image) (steps : ℕ) where
  pub are_counts : (counts : Counts) (printed : List ℕ) → CountsImage image listing steps (Ok counts) → printed ≡ counts_text listing.bodies counts.rows counts.status
      → IsCountsText text heap depth steps printed
  are_counts counts printed counted is = record {
    rows = counts.rows;
    status = counts.status;
    output = counted.output;
    exits = exits_alone text file listing heap depth short compiled image stands steps counted.output counts.status counted.ends;
    counted = counted.rows;
    is = is;
  }

  pub counts_spent : CountsImage image listing steps (Err count_error.Spent) → SpendsSteps text heap depth steps
  counts_spent counted = record {
    output = counted.output;
    runs = runs_alone text file listing heap depth short compiled image stands steps counted.output run_end.Spent counted.ends;
  }

  pub counts_never_stuck : (stuck : stuck_place.Stuck) → CountsImage image listing steps (Err (count_error.Stuck stuck)) → ⊥
  counts_never_stuck stuck counted = no_stuck_end text file listing heap depth short compiled image stands steps counted.output stuck counted.ends

-- a text that is refused comes to no exit
pub refused_exit : (text : List ℕ) (heap depth steps : ℕ) (why : Failure) → IsRefused text depth why → HasNoExit text heap depth steps why
refused_exit text heap depth steps failure.TooLong h = h
refused_exit text heap depth steps (failure.Compile error) h = h
refused_exit text heap depth steps failure.Memory h = h
refused_exit text heap depth steps failure.ReadFailed h = absurd h
refused_exit text heap depth steps failure.WriteFailed h = absurd h
refused_exit text heap depth steps failure.ListingFailed h = absurd h
refused_exit text heap depth steps (failure.Image error) h = absurd h
refused_exit text heap depth steps failure.StepsSpent h = absurd h
refused_exit text heap depth steps failure.OutputFailed h = absurd h
