-- What the walk over a draft adds to the tables: each global and each symbol that it names, behind those before.
use Rattle.std.specs.Prelude.{◌≡◌, List, ℕ}
use Rattle.sch_names.specs.NamesView.{names_of}
use Rattle.sch_sketch.specs.Draft.{Draft, Drafts}
use Rattle.sch_link_tables.specs.Listed.{AreListed}
use Rattle.sch_link_tables.specs.Named.{firsts, globals_in, globals_in_each, symbols_in, symbols_in_each}
use Rattle.sch_link_tables.specs.declared.tables.Tables.{Tables}

-- by the globals that the text has of its own
module _ (own : List (List ℕ)) where
  abbrev pub NamesDraft : Draft → (before after : Tables) → Type 0
  NamesDraft d before after = record {
    globals : names_of after.globals.names ≡ firsts (names_of before.globals.names) (globals_in own d);
    symbols : names_of after.symbols.names ≡ firsts (names_of before.symbols.names) (symbols_in d);
    listed : AreListed before → AreListed after;
  }

  abbrev pub NamesEach : Drafts → (before after : Tables) → Type 0
  NamesEach ds before after = record {
    globals : names_of after.globals.names ≡ firsts (names_of before.globals.names) (globals_in_each own ds);
    symbols : names_of after.symbols.names ≡ firsts (names_of before.symbols.names) (symbols_in_each ds);
    listed : AreListed before → AreListed after;
  }
