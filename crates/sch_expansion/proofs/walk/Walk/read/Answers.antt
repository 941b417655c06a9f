use Rattle.std.proofs.Common.{[], arith, refl}
use Rattle.std.proofs.lemmas.List.{reverse-append}
use Rattle.sch_names.specs.NamesView.{globals_of}
use Rattle.sch_sketch.specs.declared.sketch.Position.TheVariants.{Value}
use Rattle.sch_sketch.specs.SketchView.{sketch_of}
use Rattle.sch_expansion.specs.WalkStack.{Task}
use Rattle.sch_expansion.proofs.walk.Walk.read.Goals as goal

pub loop-next-init : goal.loop-next-init
loop-next-init c = λ m e r.
    let r' = rw c.forget.ensures.scope at r in
    rw c.forget.ensures.stack r'

pub returns-in-None : goal.returns-in-None
returns-in-None c =
    let h = rw c.in-Up.is at c.loop-next.invariant in
    let p = rw c.in-None.is at c.pop.ensures in
    let q = rw p.0 at h in
    q

pub loop-next-preserved : goal.loop-next-preserved
loop-next-preserved c =
    let k : Task = record { globals = globals_of c.args.globals.now; level = 1; scope = []; position = Value; sketch = sketch_of c.args.sketch; fault = c.args.fault.now } in
    let h = rw c.in-Up.is at c.loop-next.invariant in
    let p = rw c.in-Some.is at c.pop.ensures in
    let q = rw (p, reverse-append) at h in
    c.in_ok-next-in-Some.ensures.ready k refl q

pub loop-next-smaller : goal.loop-next-smaller
loop-next-smaller c =
    let p = rw c.in-Some.is at c.pop.ensures in
    let l = c.in_ok-next-in-Some.ensures.smaller in
    rw (c.in-Up.is, p, reverse-append) (omega (arith, l))
