use Rattle.std.proofs.Common.{◌≡◌, drop}
use Rattle.sch_read.specs.Views.{data_of}
use Rattle.sch_form_bindings.specs.Bindings.{inits}
use Rattle.sch_sketch.specs.Sketch.{Sketches}
use Rattle.sch_sketch.specs.SketchView.{ahead}
use Rattle.sch_form_bindings.proofs.shape.add_inits.Given as goal

abbrev pub invariant-loop-d : goal.invariant-loop-d
invariant-loop-d l = (ks : Sketches) → ahead l.parts (inits (data_of (drop l.d-index l.items)) ks) ≡ ahead l.initial.parts (inits (data_of l.items) ks)
