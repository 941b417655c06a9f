use Rattle.std.proofs.Common.{◌*◌, arith}
use Rattle.std.specs.Prelude.{◌&&◌, not}
use Rattle.std.specs.FinSet as set
use Rattle.std.proofs.lemmas.Bool.Decides.{nat_tests}
use Rattle.sch_word.specs.trees.NumberSets.{has}
use Rattle.sch_control.specs.Valid.{member_variables}
use Rattle.sch_control.proofs.ReadSteps.{remove_turn, remove_end, variables_turn}
use Rattle.sch_control.proofs.reads.remove_members.Goals as goal

pub remove-requires : goal.remove-requires
remove-requires g c =
    let h = (variables_turn (64 * g.row.N) c.args.members.now c.loop-m.m-index c.m-item.result c.loop-m-test.true c.m-item.is c.loop-m.invariant.below).0 in
    grind (arith, nat_tests, h)

pub loop-m-preserved : goal.loop-m-preserved
loop-m-preserved g c =
    record {
      left =
          remove_turn c.args.members.now c.loop-m.m-index c.m-item.result c.loop-m.live _
          (λ x. not (has x (member_variables c.args.members.now)) && set.contains c.args.live.now x) c.loop-m-test.true c.m-item.is c.remove.ensures c.loop-m.invariant.left;
      below = (variables_turn (64 * g.row.N) c.args.members.now c.loop-m.m-index c.m-item.result c.loop-m-test.true c.m-item.is c.loop-m.invariant.below).1;
    }

pub returns : goal.returns
returns g c =
    remove_end c.args.members.now c.loop-m.m-index c.loop-m.live
    (λ x. not (has x (member_variables c.args.members.now)) && set.contains c.args.live.now x) c.loop-m-test.false c.loop-m.invariant.left
