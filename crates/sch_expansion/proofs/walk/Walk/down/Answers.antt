use Rattle.std.proofs.lemmas.Result.{IfOk-weaker}
use Rattle.sch_expansion.proofs.Stacks.{smaller_outlined}
use Rattle.sch_expansion.proofs.walk.Walk.down.Goals as goal

pub returns-clause-ready : goal.returns-clause-ready
returns-clause-ready c = λ w h f. c.step.ensures.ready w h
    (λ m e r.
    let r' = rw h at r in
    f m e (rw h (c.in_ok-k.ensures.reads c.args.at.level c.args.at.position c.args.fault.now m e r')))

pub returns-clause-smaller : goal.returns-clause-smaller
returns-clause-smaller c = IfOk-weaker c.step.result _ _ (λ x l. smaller_outlined _ _ _ _ l c.in_ok-k.ensures.smaller) c.step.ensures.smaller
