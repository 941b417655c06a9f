use Rattle.std.proofs.Common.{◌≡◌, ◌++◌, drop}
use Rattle.sch_read.specs.Views.{data_of}
use Rattle.sch_form_bindings.specs.Bindings as table
use Rattle.sch_names.specs.ScopeView.{given_names}
use Rattle.sch_form_bindings.proofs.shape.bound_names.Given as goal

abbrev pub invariant-loop-d : goal.invariant-loop-d
invariant-loop-d l = record {
  are : table.are_bindings (data_of (drop l.d-index l.items)) ≡ table.are_bindings (data_of l.items);
  names : given_names l.names ++ table.bound (data_of (drop l.d-index l.items)) ≡ table.bound (data_of l.items);
}
