use Rattle.sch_step.proofs.EndedMachines.{rest_ended}
use Rattle.sch_step.proofs.machine.rest.Goals as goal

pub returns-clause-ended : goal.returns-clause-ended
returns-clause-ended c = rest_ended c.look.result c.args.m.now c.look.new.m c.look.ensures.at c.look.ensures.stands c.look.ensures.rested
