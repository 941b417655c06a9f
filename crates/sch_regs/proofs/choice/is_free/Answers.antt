use Rattle.sch_regs.proofs.ChoiceSteps.{free_register}
use Rattle.sch_regs.proofs.choice.is_free.Goals as goal

pub returns : goal.returns
returns g c t r h =
    free_register c.args.live.now t r c.args.held.now c.meet.result c.is_empty.result h c.meet.ensures c.is_empty.ensures.empty.0 c.is_empty.ensures.member
