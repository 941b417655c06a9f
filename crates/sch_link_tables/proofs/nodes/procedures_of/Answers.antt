use Rattle.sch_link_tables.proofs.ProcedureLists.{next_procedure, no_procedure, all_left}
use Rattle.sch_link_tables.proofs.nodes.procedures_of.Goals as goal

pub loop-e-init : goal.loop-e-init
loop-e-init c = all_left c.args.es c.reversed-left.result c.new-all.result c.new-all.ensures c.reversed-left.ensures

pub loop-e-preserved : goal.loop-e-preserved
loop-e-preserved c =
    let l = rw c.in-Some.is at c.pop.ensures in
    rw c.in_ok-push.ensures.ok (next_procedure c.loop-e.left c.pop.new.self c.in-Some.e c.loop-e.all c.procedure_of-l.result _ l c.procedure_of-l.ensures c.loop-e.invariant)

pub returns : goal.returns
returns c =
    let l = rw c.in_default.is at c.pop.ensures in
    no_procedure c.loop-e.left c.loop-e.all _ l.0 c.loop-e.invariant
