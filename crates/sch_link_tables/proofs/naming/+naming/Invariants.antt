use Rattle.std.proofs.Common.{◌≡◌, drop}
use Rattle.sch_names.specs.NamesView.{names_of}
use Rattle.sch_sketch.specs.DraftView.{drafts_of}
use Rattle.sch_link_tables.specs.Listed.{AreListed}
use Rattle.sch_link_tables.specs.Named.{firsts, globals_in_each, symbols_in_each}
use Rattle.sch_link_tables.proofs.naming.+naming.Given as goal

abbrev pub invariant-name_each-loop-e : goal.invariant-name_each-loop-e
invariant-name_each-loop-e l = record {
  globals : firsts (names_of l.tables.globals.names) (globals_in_each (names_of l.own) (drafts_of (drop l.e-index l.es))) ≡ firsts (names_of l.initial.tables.globals.names) (globals_in_each (names_of l.own) (drafts_of l.es));
  symbols : firsts (names_of l.tables.symbols.names) (symbols_in_each (drafts_of (drop l.e-index l.es))) ≡ firsts (names_of l.initial.tables.symbols.names) (symbols_in_each (drafts_of l.es));
  listed : AreListed l.initial.tables → AreListed l.tables;
}
