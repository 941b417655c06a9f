-- A command whose words were not read, for want of memory: nothing was touched, and each verb ends so.
use Rattle.std.proofs.Common.{◌≡◌, ℕ, Option, Some, None, Err, refl, arith}
use Rattle.sch_commands.specs.Command.{Command, IfCompile, IfCount, IfGen, IfList, IfRun, IfStep, compile, count, gen, list, run, step}
use Rattle.sch_cli.specs.Compiles as compiles
use Rattle.sch_cli.specs.Compiles.{EndsCompile}
use Rattle.sch_cli.specs.Counts as counts
use Rattle.sch_cli.specs.Counts.{EndsCount}
use Rattle.sch_cli.specs.Lists as lists
use Rattle.sch_cli.specs.Lists.{EndsList}
use Rattle.sch_cli.specs.Messages.{Says, out_of_memory_line}
use Rattle.sch_cli.specs.Prints.{EndsGen, not_measured}
use Rattle.sch_cli.specs.Seen.{DiskChange, DiskState, HadAtMostCalls, StreamChange, TookNothing}
use Rattle.sch_cli.specs.Steps as runs
use Rattle.sch_cli.specs.Steps.{EndsRun, RunsSource, StepsImage}
use Rattle.sch_cli.specs.declared.failure.Failure.TheVariants.{Memory}
use Rattle.sch_cli.proofs.DiskSteps.{took_nothing}

abbrev untouched : DiskState → DiskChange
untouched state = record { before = state; after = state }

no_calls : (state : DiskState) → HadAtMostCalls 1 (untouched state)
no_calls state few = (omega arith, omega arith)

pub unread_compile : (command : Option Command) (status : ℕ) (disk : DiskState) (err : StreamChange) → status ≡ 10 → Says out_of_memory_line err
    → IfCompile command (λ source target listing heap depth. EndsCompile source target listing heap depth status (untouched disk) err)
unread_compile (Some (compile source target listing heap depth)) status disk err is says =
    record { answer = Err Memory; status_is = is; says = says; compiles = compiles.no_memory (took_nothing disk.files) (no_calls disk) }
unread_compile (Some (run source heap depth steps)) status disk err is says = tt
unread_compile (Some (step image steps)) status disk err is says = tt
unread_compile (Some (gen number steps)) status disk err is says = tt
unread_compile (Some (list source heap depth)) status disk err is says = tt
unread_compile (Some (count source heap depth steps)) status disk err is says = tt
unread_compile None status disk err is says = tt

pub unread_run : (command : Option Command) (status : ℕ) (disk : DiskState) (err out : StreamChange) → status ≡ 10 → Says out_of_memory_line err → TookNothing out
    → IfRun command (λ source heap depth steps. EndsRun source status (untouched disk) err (RunsSource source heap depth steps (untouched disk) out))
unread_run (Some (compile source target listing heap depth)) status disk err out is says nothing = tt
unread_run (Some (run source heap depth steps)) status disk err out is says nothing = record {
  answer = Err Memory;
  status_is = is;
  says = says;
  unchanged = took_nothing disk.files;
  calls = λ other. absurd (other refl);
  few_calls = no_calls disk;
  did = runs.no_memory nothing;
}
unread_run (Some (step image steps)) status disk err out is says nothing = tt
unread_run (Some (gen number steps)) status disk err out is says nothing = tt
unread_run (Some (list source heap depth)) status disk err out is says nothing = tt
unread_run (Some (count source heap depth steps)) status disk err out is says nothing = tt
unread_run None status disk err out is says nothing = tt

pub unread_step : (command : Option Command) (status : ℕ) (disk : DiskState) (err out : StreamChange) → status ≡ 10 → Says out_of_memory_line err → TookNothing out
    → IfStep command (λ image steps. EndsRun image status (untouched disk) err (StepsImage image steps (untouched disk) out))
unread_step (Some (compile source target listing heap depth)) status disk err out is says nothing = tt
unread_step (Some (run source heap depth steps)) status disk err out is says nothing = tt
unread_step (Some (step image steps)) status disk err out is says nothing = record {
  answer = Err Memory;
  status_is = is;
  says = says;
  unchanged = took_nothing disk.files;
  calls = λ other. absurd (other refl);
  few_calls = no_calls disk;
  did = runs.no_memory nothing;
}
unread_step (Some (gen number steps)) status disk err out is says nothing = tt
unread_step (Some (list source heap depth)) status disk err out is says nothing = tt
unread_step (Some (count source heap depth steps)) status disk err out is says nothing = tt
unread_step None status disk err out is says nothing = tt

pub unread_gen : (command : Option Command) (status : ℕ) (err out : StreamChange) → status ≡ 10 → Says out_of_memory_line err → TookNothing out
    → IfGen command (λ number steps. EndsGen number steps status err out)
unread_gen (Some (gen number steps)) status err out is says nothing =
    record { answer = Err Memory; status_is = is; says = says; generates = not_measured Memory tt nothing }
unread_gen (Some (compile source target listing heap depth)) status err out is says nothing = tt
unread_gen (Some (run source heap depth steps)) status err out is says nothing = tt
unread_gen (Some (step image steps)) status err out is says nothing = tt
unread_gen (Some (list source heap depth)) status err out is says nothing = tt
unread_gen (Some (count source heap depth steps)) status err out is says nothing = tt
unread_gen None status err out is says nothing = tt

pub unread_list : (command : Option Command) (status : ℕ) (disk : DiskState) (err out : StreamChange) → status ≡ 10 → Says out_of_memory_line err → TookNothing out
    → IfList command (λ source heap depth. EndsList source heap depth status (untouched disk) err out)
unread_list (Some (list source heap depth)) status disk err out is says nothing = record {
  answer = Err Memory;
  status_is = is;
  says = says;
  unchanged = took_nothing disk.files;
  calls = λ other. absurd (other refl);
  few_calls = no_calls disk;
  lists = lists.no_memory nothing;
}
unread_list (Some (compile source target listing heap depth)) status disk err out is says nothing = tt
unread_list (Some (run source heap depth steps)) status disk err out is says nothing = tt
unread_list (Some (step image steps)) status disk err out is says nothing = tt
unread_list (Some (gen number steps)) status disk err out is says nothing = tt
unread_list (Some (count source heap depth steps)) status disk err out is says nothing = tt
unread_list None status disk err out is says nothing = tt

pub unread_count : (command : Option Command) (status : ℕ) (disk : DiskState) (err out : StreamChange) → status ≡ 10 → Says out_of_memory_line err → TookNothing out
    → IfCount command (λ source heap depth steps. EndsCount source heap depth steps status (untouched disk) err out)
unread_count (Some (count source heap depth steps)) status disk err out is says nothing = record {
  answer = Err Memory;
  status_is = is;
  says = says;
  unchanged = took_nothing disk.files;
  calls = λ other. absurd (other refl);
  few_calls = no_calls disk;
  counts = counts.no_memory nothing;
}
unread_count (Some (compile source target listing heap depth)) status disk err out is says nothing = tt
unread_count (Some (run source heap depth steps)) status disk err out is says nothing = tt
unread_count (Some (step image steps)) status disk err out is says nothing = tt
unread_count (Some (gen number steps)) status disk err out is says nothing = tt
unread_count (Some (list source heap depth)) status disk err out is says nothing = tt
unread_count None status disk err out is says nothing = tt
