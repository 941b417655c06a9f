use Rattle.std.proofs.Common.{◌%◌, refl, sym, arith, Some}
use Rattle.sch_step.specs.Layout.{segments_view}
use Rattle.sch_step.specs.View.{core_of}
use Rattle.sch_step.proofs.FetchedStays.{found_at, found_here}
use Rattle.sch_step.proofs.ProcessorSteps.{fetch_does}
use Rattle.sch_step.proofs.processor.Processor.step.Goals as goal

pub returns-then-kept-ne0-clause-did : goal.returns-then-kept-ne0-clause-did
returns-then-kept-ne0-clause-did g c =
    let m = c.args.self.now in
    let gs = segments_view m.segments in
    let kept = c.index.result.now in
    let within = m.counted in
    let some = c.if-kept-ne0.true in
    let is = found_at gs m.fetched.items (m.at % 4096) kept m.kept (omega (arith, within)) c.index.ensures (omega (arith, some)) in
    let here = found_here gs kept m.at is c.if-kept-self.true in
    fetch_does kept.insn kept.size c.perform.result (core_of m) (core_of m) (core_of c.perform.new.self) (g.O.Outlet.bytes c.args.out.now) (g.O.Outlet.bytes c.perform.new.out)
    (g.O.Outlet.left c.args.out.now) (g.O.Outlet.left c.perform.new.out) (g.O.Outlet.faults c.args.out.now) (g.O.Outlet.faults c.perform.new.out) (Some (kept.insn, kept.size))
    refl (sym here) refl c.perform.ensures.did
