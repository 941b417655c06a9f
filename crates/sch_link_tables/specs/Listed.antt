-- Tables whose lists have the names that are numbered, in the order of their numbers.
use Rattle.std.specs.Prelude.{◌≡◌}
use Rattle.sch_names.specs.NamesView.{names_of}
use Rattle.sch_link_tables.specs.declared.tables.Table.{Table}
use Rattle.sch_link_tables.specs.declared.tables.Tables.{Tables}

abbrev pub IsListed : Table → Type 0
IsListed t = t.list ≡ names_of t.names

abbrev pub AreListed : Tables → Type 0
AreListed t = IsListed t.globals × IsListed t.symbols
