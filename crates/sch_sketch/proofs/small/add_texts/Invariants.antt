use Rattle.std.proofs.Common.{◌≡◌, drop}
use Rattle.sch_read.specs.Views.{data_of}
use Rattle.sch_sketch.specs.Small.{texts}
use Rattle.sch_sketch.specs.Sketch.{Sketches}
use Rattle.sch_sketch.specs.SketchView.{ahead}
use Rattle.sch_sketch.proofs.small.add_texts.Given as goal

abbrev pub invariant-loop-d : goal.invariant-loop-d
invariant-loop-d l = (ks : Sketches) → ahead l.parts (texts (data_of (drop l.d-index l.items)) ks) ≡ ahead l.initial.parts (texts (data_of l.items) ks)
