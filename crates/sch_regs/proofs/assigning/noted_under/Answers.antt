use Rattle.std.proofs.Common.{◌∙◌}
use Rattle.std.specs.FinSet as set
use Rattle.std.proofs.lemmas.List.{get_or_default}
use Rattle.sch_regs.proofs.assigning.noted_under.Goals as goal

pub returns : goal.returns
returns g c = c.index-noted-y.is ∙ get_or_default c.args.noted.now c.args.y c.index-noted-y.result set.empty c.requires
