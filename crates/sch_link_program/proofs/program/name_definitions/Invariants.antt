use Rattle.std.proofs.Common.{◌≡◌, drop}
use Rattle.sch_names.specs.NamesView.{names_of}
use Rattle.sch_link_tables.specs.Listed.{AreListed}
use Rattle.sch_link_tables.specs.Named.{firsts}
use Rattle.sch_link_tables.specs.Programs.{globals_of_each, symbols_of_each}
use Rattle.sch_link_program.specs.Definitions.{kept_definitions}
use Rattle.sch_link_program.proofs.program.name_definitions.Given as goal

abbrev pub invariant-loop-d : goal.invariant-loop-d
invariant-loop-d l = record {
  globals : firsts (names_of l.tables.globals.names) (globals_of_each (kept_definitions (drop l.d-index l.definitions))) ≡ firsts (names_of l.initial.tables.globals.names) (globals_of_each (kept_definitions l.definitions));
  symbols : firsts (names_of l.tables.symbols.names) (symbols_of_each (kept_definitions (drop l.d-index l.definitions))) ≡ firsts (names_of l.initial.tables.symbols.names) (symbols_of_each (kept_definitions l.definitions));
  listed : AreListed l.initial.tables → AreListed l.tables;
}
