use Rattle.std.proofs.Common.{subst}
use Rattle.std.specs.FinSet as set
use Rattle.sch_control.specs.Valid.{member_variables}
use Rattle.sch_regs.specs.Shows.{Shows}
use Rattle.sch_regs.proofs.ChoiceSteps.{both_rounds}
use Rattle.sch_regs.proofs.assigning.choose_both.Goals as goal

pub returns : goal.returns
returns g c count t h =
    subst (λ u. Shows count c.choose_those-2.new.placing u) (both_rounds (set.contains c.args.live.now) (member_variables c.args.members.now) t)
    (c.choose_those-2.ensures count _ (c.choose_those.ensures count t h))
