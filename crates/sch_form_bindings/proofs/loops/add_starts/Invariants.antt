use Rattle.std.proofs.Common.{◌≡◌}
use Rattle.sch_read.specs.Parts.{how_many}
use Rattle.sch_read.specs.Views.{data_of}
use Rattle.sch_sketch.specs.Sketch.{Sketches}
use Rattle.sch_sketch.specs.SketchView.{ahead}
use Rattle.sch_form_bindings.specs.Loops as table
use Rattle.sch_form_bindings.proofs.loops.add_starts.Given as goal

abbrev pub invariant-loop-d : goal.invariant-loop-d
invariant-loop-d l = (ks : Sketches) → ahead l.parts (table.starts (data_of l.left) ks) ≡ ahead l.initial.parts (table.starts (data_of l.items) ks)

abbrev pub decreases-loop-d : goal.decreases-loop-d
decreases-loop-d l = how_many (data_of l.left)
