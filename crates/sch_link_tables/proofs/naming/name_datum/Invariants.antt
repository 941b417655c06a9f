use Rattle.std.proofs.Common.{◌≡◌, drop}
use Rattle.sch_read.specs.DatumParts.{lent_trees}
use Rattle.sch_names.specs.NamesView.{names_of}
use Rattle.sch_link_tables.specs.Listed.{IsListed}
use Rattle.sch_link_tables.specs.Named.{firsts}
use Rattle.sch_link_tables.proofs.SymbolsInOrder.{symbols_of_nodes}
use Rattle.sch_link_tables.proofs.naming.name_datum.Given as goal

abbrev pub invariant-loop-node : goal.invariant-loop-node
invariant-loop-node l = record {
  names : firsts (names_of l.symbols.names) (symbols_of_nodes (lent_trees (drop l.node-index l.node-items))) ≡ firsts (names_of l.initial.symbols.names) (symbols_of_nodes (lent_trees l.node-items));
  listed : IsListed l.initial.symbols → IsListed l.symbols;
}
