use Rattle.std.proofs.Common.{◌*◌}
use Rattle.std.specs.Prelude.{◌||◌, nat_lt}
use Rattle.std.specs.FinSet as set
use Rattle.sch_word.specs.trees.NumberSets.{has}
use Rattle.sch_control.proofs.NumberLists.{all_turn, all_end, below_turn}
use Rattle.sch_control.proofs.set_lists.with_all.Goals as goal

pub loop-x-preserved : goal.loop-x-preserved
loop-x-preserved g c =
    record {
      found = all_turn c.loop-x.all _ c.args.xs.now c.loop-x.x-index (λ y. has y c.args.xs.now || set.contains c.args.s.now y) c.loop-x-test.true c.insert.ensures c.loop-x.invariant.found;
      below = (below_turn (λ x. nat_lt x (64 * g.row.N)) c.args.xs.now c.loop-x.x-index c.loop-x-test.true c.loop-x.invariant.below).1;
    }

pub returns : goal.returns
returns g c = all_end c.loop-x.all c.args.xs.now c.loop-x.x-index (λ y. has y c.args.xs.now || set.contains c.args.s.now y) c.loop-x-test.false c.loop-x.invariant.found
