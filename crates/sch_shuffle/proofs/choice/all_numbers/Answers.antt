use Rattle.std.proofs.Common.{◌∙◌, ap, ◌++◌, ◌-◌, ◌+◌}
use Rattle.sch_word.specs.trees.Bindings.{numbers}
use Rattle.sch_shuffle.proofs.WaitingArguments.{numbers_push}
use Rattle.sch_shuffle.proofs.choice.all_numbers.Goals as goal

pub loop-k-preserved : goal.loop-k-preserved
loop-k-preserved c =
    ap (λ xs. xs ++ numbers (c.loop-k.k + 1) (c.args.count - (c.loop-k.k + 1))) c.in_ok-push.ensures.ok
    ∙ numbers_push c.loop-k.all.items c.args.count c.loop-k.k c.loop-k-test.true ∙ c.loop-k.invariant
