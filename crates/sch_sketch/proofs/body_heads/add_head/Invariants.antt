use Rattle.std.proofs.Common.{◌≡◌, ◌++◌, drop}
use Rattle.sch_read.specs.Views.{data_of}
use Rattle.sch_names.specs.ScopeView.{given_names}
use Rattle.sch_sketch.specs.Sketch.{Sketches}
use Rattle.sch_sketch.specs.SketchView.{ahead}
use Rattle.sch_sketch.specs.BodyHeads as table
use Rattle.sch_sketch.proofs.body_heads.add_head.Given as goal

abbrev pub invariant-loop-i : goal.invariant-loop-i
invariant-loop-i l = record {
  names : given_names l.names ++ table.body_names l.scope (data_of (drop l.i l.items)) ≡ given_names l.initial.names ++ table.body_names l.scope (data_of l.items);
  parts : (ks : Sketches) → ahead l.parts (table.body_inits l.scope (data_of (drop l.i l.items)) ks) ≡ ahead l.initial.parts (table.body_inits l.scope (data_of l.items) ks);
  rest : table.expressions l.scope (data_of (drop l.i l.items)) ≡ table.expressions l.scope (data_of l.items);
}
