use Rattle.std.proofs.Common.{◌≡◌, ◌+◌, drop}
use Rattle.sch_names.specs.NamesView.{number_of}
use Rattle.sch_link_tables.specs.Programs.{names_of_each}
use Rattle.sch_link_program.specs.Definitions.{kept_definitions}
use Rattle.sch_link_program.proofs.starting.procedure_number.Given as goal

abbrev pub invariant-loop-d : goal.invariant-loop-d
invariant-loop-d l = record {
  number : l.n + number_of l.x (names_of_each (kept_definitions (drop l.d-index l.definitions))) ≡ number_of l.x (names_of_each (kept_definitions l.definitions));
  place : l.n ≡ l.d-index;
}
