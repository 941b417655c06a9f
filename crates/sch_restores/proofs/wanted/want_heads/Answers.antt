use Rattle.sch_restores.proofs.EagerSteps.{with_heads}
use Rattle.sch_restores.proofs.wanted.want_heads.Goals as goal

pub returns : goal.returns
returns g c =
    with_heads c.args.saves.now c.new.result c.with_all.result c.args.unbound.now c.meet-heads.result c.args.soon.now c.union.result c.new.ensures c.with_all.ensures
    c.meet-heads.ensures c.union.ensures
