use Rattle.std.proofs.Common.{refl, sym, ◌∙◌}
use Rattle.std.proofs.lemmas.List.{take_rest}
use Rattle.sch_code.proofs.FirstByte.{full_whole_word, full_without_operand, full_long, full_wide, full_nothing}
use Rattle.sch_code.proofs.decoding.full.Goals as goal

pub returns : goal.returns
returns c =
    c.wide.ensures
    ∙ full_wide c.args.bytes.now _ _ refl (sym (take_rest c.args.bytes.now 1)) _ _ _ _ _ c.if-op.false c.if-op-2.false c.if-op-eq15.false (sym c.operand.ensures.value ∙ c.in_ok-reg.was)

pub returns-then-op : goal.returns-then-op
returns-then-op c = c.whole_word.ensures ∙ full_whole_word c.args.bytes.now _ _ refl (sym (take_rest c.args.bytes.now 1)) _ _ c.if-op.true

pub returns-then-op-2 : goal.returns-then-op-2
returns-then-op-2 c = c.without_operand.ensures ∙ full_without_operand c.args.bytes.now _ _ refl refl _ _ c.if-op.false c.if-op-2.true

pub returns-then-op-eq15 : goal.returns-then-op-eq15
returns-then-op-eq15 c = c.long.ensures ∙ full_long c.args.bytes.now _ _ refl (sym (take_rest c.args.bytes.now 1)) _ _ c.if-op.false c.if-op-2.false c.if-op-eq15.true

pub returns-in_err-reg : goal.returns-in_err-reg
returns-in_err-reg c =
    c.from_residual.ensures
    ∙ full_nothing c.args.bytes.now _ _ refl (sym (take_rest c.args.bytes.now 1)) _ _ c.if-op.false c.if-op-2.false c.if-op-eq15.false (sym c.operand.ensures.value ∙ c.in_err-reg.was)
