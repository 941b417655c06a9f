use Rattle.std.proofs.Common.{◌∙◌, ap, arith, length}
use Rattle.std.proofs.lemmas.List.{length-map}
use Rattle.sch_shuffle.specs.View.{tree, arguments}
use Rattle.sch_shuffle.proofs.WaitingArguments.{all_choices_length, all_choices_below, below_same}
use Rattle.sch_shuffle.proofs.moves.make_moves.Goals as goal

pub evaluate-requires-clause-free : goal.evaluate-requires-clause-free
evaluate-requires-clause-free c =
    let e = c.as_slice.ensures.value ∙ c.in_ok-choices.ensures in
    let n = all_choices_length (arguments c.args.args.now) c.args.targets.now in
    let same = length-map c.args.args.now tree in
    omega (arith, ap length e, n, same, c.requires.free)

pub evaluate-requires-clause-known : goal.evaluate-requires-clause-known
evaluate-requires-clause-known c =
    let e = c.as_slice.ensures.value ∙ c.in_ok-choices.ensures in
    let same = length-map c.args.args.now tree in
    below_same _ _ _ _ e same (all_choices_below (arguments c.args.args.now) c.args.targets.now)

pub go_on-requires-clause-free : goal.go_on-requires-clause-free
go_on-requires-clause-free c =
    let e = c.as_slice-2.ensures.value ∙ c.in_ok-choices.ensures in
    let n = all_choices_length (arguments c.args.args.now) c.args.targets.now in
    let same = length-map c.args.args.now tree in
    omega (arith, ap length e, n, same, c.requires.free)

pub go_on-requires-clause-known : goal.go_on-requires-clause-known
go_on-requires-clause-known c =
    let e = c.as_slice-2.ensures.value ∙ c.in_ok-choices.ensures in
    let same = length-map c.args.args.now tree in
    below_same _ _ _ _ e same (all_choices_below (arguments c.args.args.now) c.args.targets.now)
