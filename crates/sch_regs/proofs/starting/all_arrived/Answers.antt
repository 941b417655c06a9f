use Rattle.std.proofs.Common.{refl, subst, [], ◌+◌, arith}
use Rattle.sch_regs.specs.PlaceChoice.{arrived}
use Rattle.sch_regs.specs.Shows.{Shows}
use Rattle.sch_regs.proofs.StartSteps.{arrived_next}
use Rattle.sch_regs.proofs.starting.all_arrived.Goals as goal

pub loop-k-init : goal.loop-k-init
loop-k-init g c = c.give-2.ensures c.args.variables _ (c.give.ensures c.args.variables [] c.in_ok-placing.ensures)

pub loop-k-preserved : goal.loop-k-preserved
loop-k-preserved g c =
    subst (λ u. Shows c.args.variables c.give-in-loop-k.new.placing u)
    (arrived_next c.loop-k.k (2 + c.loop-k.k) (c.loop-k.k + 1) c.arrival.result refl c.arrival.ensures refl)
    (c.give-in-loop-k.ensures c.args.variables (arrived c.loop-k.k) c.loop-k.invariant)

pub returns : goal.returns
returns g c =
    let over = c.loop-k-test.false in
    let within = c.loop-k.auto.k-end in
    subst (λ n. Shows c.args.variables c.loop-k.placing (arrived n)) (omega (arith, over, within)) c.loop-k.invariant
