use Rattle.std.proofs.Common.{◌∷◌, [], length, ◌∙◌, arith, length-append}
use Rattle.std.proofs.lemmas.List.{take-append-le}
use Rattle.sch_variable_counts.proofs.CappedCounts.{all_step}
use Rattle.sch_variable_counts.proofs.scopes.bind_all.Goals as goal

pub loop-left-preserved : goal.loop-left-preserved
loop-left-preserved c =
    let n = length-append c.loop-left.scope.items (c.args.each ∷ []) in
    record {
      once = rw c.in_ok-push.ensures.items (all_step c.args.each c.loop-left.scope.items c.loop-left.left _ c.loop-left-test.true c.loop-left.invariant.once);
      kept = rw c.in_ok-push.ensures.items (take-append-le (length c.args.scope.now.items) c.loop-left.scope.items _ c.loop-left.invariant.len ∙ c.loop-left.invariant.kept);
      len = rw c.in_ok-push.ensures.items (omega (arith, c.loop-left.invariant.len, n));
    }
