use Rattle.std.proofs.Common.{◌≡◌, ◌∙◌, ap, sym, ◌+◌, drop, true, false}
use Rattle.std.proofs.lemmas.List.{drop_all}
use Rattle.std.specs.Prelude.{◌||◌}
use Rattle.sch_shuffle.specs.View.{tree}
use Rattle.sch_shuffle.specs.Tree.{uses, uses_one}
use Rattle.sch_shuffle.proofs.OperandRows.{all_left, use_next, left}
use Rattle.sch_shuffle.proofs.operand.+using.Goals as goal

pub one_uses-returns-then-uses : goal.one_uses-returns-then-uses
one_uses-returns-then-uses t c =
    let next = use_next c.as_slice-operand-items.result.now c.loop-operand.operand-index c.operand-item.result c.args.place c.loop-operand-test.true c.operand-item.is in
    let here : uses (tree c.operand-item.result) c.args.place ≡ true = sym c.uses.ensures ∙ c.if-uses.true in
    let all = ap (λ x. uses_one x c.args.place) (all_left c.args.operands.now c.as_slice-operand-items.result.now c.as_slice-operand-items.ensures) in
    sym (all ∙ sym c.loop-operand.invariant ∙ next ∙ ap (λ b. b || uses_one (left (drop (c.loop-operand.operand-index + 1) c.as_slice-operand-items.result.now)) c.args.place) here)

pub one_uses-loop-operand-preserved : goal.one_uses-loop-operand-preserved
one_uses-loop-operand-preserved t c =
    let next = use_next c.as_slice-operand-items.result.now c.loop-operand.operand-index c.operand-item.result c.args.place c.loop-operand-test.true c.operand-item.is in
    let here : uses (tree c.operand-item.result) c.args.place ≡ false = sym c.uses.ensures ∙ c.if-uses.false in
    sym (next ∙ ap (λ b. b || uses_one (left (drop (c.loop-operand.operand-index + 1) c.as_slice-operand-items.result.now)) c.args.place) here) ∙ c.loop-operand.invariant

pub one_uses-returns : goal.one_uses-returns
one_uses-returns t c =
    let all = ap (λ x. uses_one x c.args.place) (all_left c.args.operands.now c.as_slice-operand-items.result.now c.as_slice-operand-items.ensures) in
    sym (all ∙ sym c.loop-operand.invariant ∙ ap (λ xs. uses_one (left xs) c.args.place) (drop_all _ _ c.loop-operand-test.false))
