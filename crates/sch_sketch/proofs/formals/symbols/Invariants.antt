use Rattle.std.proofs.Common.{◌≡◌, ◌++◌, drop}
use Rattle.sch_read.specs.Views.{data_of}
use Rattle.sch_names.specs.ScopeView.{given_names}
use Rattle.sch_sketch.specs.Formals as table
use Rattle.sch_sketch.proofs.formals.symbols.Given as goal

abbrev pub invariant-loop-d : goal.invariant-loop-d
invariant-loop-d l = record {
  are : table.are_symbols (data_of (drop l.d-index l.items)) ≡ table.are_symbols (data_of l.items);
  names : given_names l.names ++ table.symbols (data_of (drop l.d-index l.items)) ≡ table.symbols (data_of l.items);
}
