use Rattle.sch_restores.proofs.EagerSteps.{wanted_alive, wanted_is, wanted_once}
use Rattle.sch_restores.proofs.restoring.restoring.Goals as goal

pub invariant_of-result : goal.invariant_of-result
invariant_of-result g c =
    let o = c.args.around.now in
    record {
      alive =
          wanted_alive o.count c.args.live.now o.inside.now o.on_true.now o.on_false.now c.union-soon.result c.meet.result c.meet-all.result c.union-soon.ensures c.meet.ensures
          c.meet-all.ensures c.in_ok-restores.restores c.in_ok-restores.ensures c.copy.result c.copy.ensures;
      once =
          wanted_once o.count c.args.live.now o.inside.now o.on_true.now o.on_false.now c.union-soon.result c.meet.result c.meet-all.result c.union-soon.ensures c.meet.ensures
          c.meet-all.ensures c.in_ok-restores.restores c.in_ok-restores.ensures;
    }

pub returns-clause-restores : goal.returns-clause-restores
returns-clause-restores g c =
    let o = c.args.around.now in
    wanted_is o.count c.args.live.now o.inside.now o.on_true.now o.on_false.now c.union-soon.result c.meet.result c.meet-all.result c.union-soon.ensures c.meet.ensures
    c.meet-all.ensures c.in_ok-restores.restores c.in_ok-restores.ensures
