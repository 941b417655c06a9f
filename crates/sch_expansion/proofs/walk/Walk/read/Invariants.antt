use Rattle.std.proofs.Common.{reverse, []}
use Rattle.sch_names.specs.NamesView.{globals_of}
use Rattle.sch_sketch.specs.declared.sketch.Position.TheVariants.{Value}
use Rattle.sch_sketch.specs.SketchView.{sketch_of}
use Rattle.sch_expansion.specs.WalkStack.{Ready, next_left}
use Rattle.sch_expansion.proofs.walk.Walk.read.Given as goal

abbrev pub invariant-loop-next : goal.invariant-loop-next
invariant-loop-next l =
    Ready (record { globals = globals_of l.fn.globals; level = 1; scope = []; position = Value; sketch = sketch_of l.fn.sketch; fault = l.fn.fault })
    l.next (reverse l.self.stack) l.self.scope l.fault

abbrev pub decreases-loop-next : goal.decreases-loop-next
decreases-loop-next l = next_left l.next (reverse l.self.stack)
