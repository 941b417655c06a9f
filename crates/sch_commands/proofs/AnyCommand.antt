-- What holds whatever a command is holds of the command that words are.
use Rattle.std.proofs.Common.{Option, Some, None}
use Rattle.sch_commands.specs.Command.{Command, IfCompile, IfCount, IfGen, IfRun, compile, count, gen, list, run, step}

pub any_compile : (command : Option Command) (P : Type 0) → P → IfCompile command (λ source target listing heap depth. P)
any_compile (Some (compile source target listing heap depth)) P p = p
any_compile (Some (run source heap depth steps)) P p = tt
any_compile (Some (step image steps)) P p = tt
any_compile (Some (gen number steps)) P p = tt
any_compile (Some (list source heap depth)) P p = tt
any_compile (Some (count source heap depth steps)) P p = tt
any_compile None P p = tt

pub any_gen : (command : Option Command) (P : Type 0) → P → IfGen command (λ number steps. P)
any_gen (Some (gen number steps)) P p = p
any_gen (Some (compile source target listing heap depth)) P p = tt
any_gen (Some (run source heap depth steps)) P p = tt
any_gen (Some (step image steps)) P p = tt
any_gen (Some (list source heap depth)) P p = tt
any_gen (Some (count source heap depth steps)) P p = tt
any_gen None P p = tt

pub any_run : (command : Option Command) (P : Type 0) → P → IfRun command (λ source heap depth steps. P)
any_run (Some (run source heap depth steps)) P p = p
any_run (Some (compile source target listing heap depth)) P p = tt
any_run (Some (step image steps)) P p = tt
any_run (Some (gen number steps)) P p = tt
any_run (Some (list source heap depth)) P p = tt
any_run (Some (count source heap depth steps)) P p = tt
any_run None P p = tt

pub any_count : (command : Option Command) (P : Type 0) → P → IfCount command (λ source heap depth steps. P)
any_count (Some (count source heap depth steps)) P p = p
any_count (Some (compile source target listing heap depth)) P p = tt
any_count (Some (run source heap depth steps)) P p = tt
any_count (Some (step image steps)) P p = tt
any_count (Some (gen number steps)) P p = tt
any_count (Some (list source heap depth)) P p = tt
any_count None P p = tt
