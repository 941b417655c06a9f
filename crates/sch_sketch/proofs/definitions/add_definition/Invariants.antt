use Rattle.std.proofs.Common.{◌≡◌, ◌++◌}
use Rattle.sch_read.specs.Valid.{weights}
use Rattle.sch_read.specs.Views.{tree_of, data_of}
use Rattle.sch_names.specs.ScopeView.{given_names}
use Rattle.sch_sketch.specs.Sketch.{Sketches}
use Rattle.sch_sketch.specs.SketchView.{ahead}
use Rattle.sch_sketch.specs.Definitions as table
use Rattle.sch_sketch.proofs.definitions.add_definition.Given as goal

abbrev pub invariant-each : goal.invariant-each
invariant-each l = record {
  names : given_names l.names ++ table.names_of_each (data_of l.left) ≡ given_names l.initial.names ++ table.names_in (tree_of l.d);
  parts : (ks : Sketches) → ahead l.parts (table.inits_of_each (data_of l.left) ks) ≡ ahead l.initial.parts (table.inits_in (tree_of l.d) ks);
}

abbrev pub decreases-each : goal.decreases-each
decreases-each l = weights (data_of l.left)
