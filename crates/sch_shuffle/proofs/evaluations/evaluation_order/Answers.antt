use Rattle.std.proofs.Common.{◌∙◌}
use Rattle.std.proofs.lemmas.List.{length-map}
use Rattle.sch_word.proofs.WhenOk.{if_ok}
use Rattle.sch_shuffle.specs.View.{tree, arguments}
use Rattle.sch_shuffle.proofs.ArgumentOrder.{order_chosen}
use Rattle.sch_shuffle.proofs.WaitingArguments.{all_choices_below, below_same}
use Rattle.sch_shuffle.proofs.evaluations.evaluation_order.Goals as goal

pub numbers_of-requires-clause-known : goal.numbers_of-requires-clause-known
numbers_of-requires-clause-known c =
    below_same _ _ _ _ (c.as_slice.ensures.value ∙ c.in_ok-choices.ensures) (length-map c.args.args.now tree) (all_choices_below (arguments c.args.args.now) c.args.targets.now)

pub returns : goal.returns
returns c =
    if_ok c.numbers_of.result _ _ c.numbers_of.ensures (λ all e free.
    e ∙ order_chosen (arguments c.args.args.now) c.args.targets.now free _ c.as_slice.result.now (length-map c.args.args.now tree) (c.as_slice.ensures.value ∙ c.in_ok-choices.ensures))
