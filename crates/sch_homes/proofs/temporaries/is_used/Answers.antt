use Rattle.std.proofs.Common.{◌∙◌}
use Rattle.sch_shuffle.specs.Tree.{uses}
use Rattle.sch_shuffle.specs.View.{tree}
use Rattle.sch_homes.proofs.CallLists.{any_mapped}
use Rattle.sch_homes.proofs.temporaries.is_used.Goals as goal

pub returns : goal.returns
returns c = c.one_uses.ensures ∙ any_mapped (λ x. uses x c.args.p) tree c.args.args.now
