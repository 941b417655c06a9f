use Rattle.std.proofs.Common.{◌≡◌, drop}
use Rattle.sch_sketch.specs.SketchView.{sketches_of}
use Rattle.sch_sketch.specs.Soundness.{are_procedures}
use Rattle.sch_sketch.proofs.procedures.are_procedures.Given as goal

abbrev pub invariant-loop-k : goal.invariant-loop-k
invariant-loop-k l = are_procedures l.scope (sketches_of (drop l.k-index l.sketches)) ≡ are_procedures l.scope (sketches_of l.sketches)
