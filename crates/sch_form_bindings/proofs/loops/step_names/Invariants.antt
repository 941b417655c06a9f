use Rattle.std.proofs.Common.{◌≡◌, ◌++◌}
use Rattle.sch_read.specs.Parts.{how_many}
use Rattle.sch_read.specs.Views.{data_of}
use Rattle.sch_names.specs.ScopeView.{given_names}
use Rattle.sch_form_bindings.specs.Loops as table
use Rattle.sch_form_bindings.proofs.loops.step_names.Given as goal

abbrev pub invariant-loop-d : goal.invariant-loop-d
invariant-loop-d l = record {
  are : table.are_steps (data_of l.left) ≡ table.are_steps (data_of l.items);
  names : given_names l.names ++ table.stepped (data_of l.left) ≡ table.stepped (data_of l.items);
}

abbrev pub decreases-loop-d : goal.decreases-loop-d
decreases-loop-d l = how_many (data_of l.left)
