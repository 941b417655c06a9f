use Rattle.sch_form_bindings.proofs.LoopSteps.{stepped_next, are_next}
use Rattle.sch_form_bindings.proofs.loops.step_names.Goals as goal

pub loop-d-preserved : goal.loop-d-preserved
loop-d-preserved c =
    let i = c.loop-d.invariant in
    record {
      are = are_next c.in-Some.ensures c.in-Some-start_of.ensures c.is_step_end.ensures c.if-not-is_step_end.false i.are;
      names = stepped_next c.loop-d.names c.push.new.self c.in-Some-start_of.x _ c.in-Some.ensures c.in-Some-start_of.ensures c.in_ok-push.ensures.ok i.names;
    }
