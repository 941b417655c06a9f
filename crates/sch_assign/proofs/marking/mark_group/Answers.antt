use Rattle.std.proofs.Common.{true, ◌∙◌}
use Rattle.std.proofs.lemmas.List.{length-set}
use Rattle.sch_assign.proofs.Loops.{group_step}
use Rattle.sch_assign.proofs.marking.mark_group.Goals as goal

pub loop-place-preserved : goal.loop-place-preserved
loop-place-preserved c =
    let i = c.loop-place.invariant in
    rw c.variable_at-x.ensures (record {
      ahead = group_step c.loop-place.celled.items _ c.args.first c.args.count c.loop-place.place c.loop-place-test.true i.ahead;
      size = length-set c.loop-place.celled.items _ true ∙ i.size;
    })
