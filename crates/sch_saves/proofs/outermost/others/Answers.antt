use Rattle.std.proofs.Common.{◌*◌}
use Rattle.std.specs.Prelude.{not, nat_lt}
use Rattle.std.specs.FinSet as set
use Rattle.sch_control.proofs.NumberLists.{others_turn, others_end, below_turn}
use Rattle.sch_saves.proofs.outermost.others.Goals as goal

pub loop-x-preserved : goal.loop-x-preserved
loop-x-preserved g c =
    record {
      rest = others_turn (λ y. not (set.contains c.args.s.now y)) c.args.xs.now c.loop-x.ys _ c.loop-x.x-index c.loop-x-test.true c.in_ok-push_other.ensures c.loop-x.invariant.rest;
      below = (below_turn (λ x. nat_lt x (64 * g.row.N)) c.args.xs.now c.loop-x.x-index c.loop-x-test.true c.loop-x.invariant.below).1;
    }

pub returns : goal.returns
returns g c = others_end (λ y. not (set.contains c.args.s.now y)) c.args.xs.now c.loop-x.ys c.loop-x.x-index c.loop-x-test.false c.loop-x.invariant.rest
