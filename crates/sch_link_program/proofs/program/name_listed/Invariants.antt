use Rattle.std.proofs.Common.{◌≡◌, drop}
use Rattle.sch_names.specs.NamesView.{names_of}
use Rattle.sch_link_tables.specs.Listed.{IsListed}
use Rattle.sch_link_tables.specs.Named.{firsts}
use Rattle.sch_link_program.proofs.program.name_listed.Given as goal

abbrev pub invariant-loop-x : goal.invariant-loop-x
invariant-loop-x l = record {
  names : firsts (names_of l.table.names) (drop l.x-index l.names) ≡ firsts (names_of l.initial.table.names) l.names;
  listed : IsListed l.initial.table → IsListed l.table;
}
