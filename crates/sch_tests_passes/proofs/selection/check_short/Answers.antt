use Rattle.std.proofs.Common.{◌≤◌, subst}
use Rattle.sch_tests_passes.proofs.ShortBodies.{one_short}
use Rattle.sch_tests_passes.proofs.selection.check_short.Goals as goal

pub returns : goal.returns
returns c =
    one_short c.args.bodies.now c.body-item.result c.in-len1.len_at_least c.in-len1.len_below c.body-item.is c.if-body-gt-MOST.false
    (subst (λ n. n ≤ 1000) c.len.ensures c.if-len.false)
