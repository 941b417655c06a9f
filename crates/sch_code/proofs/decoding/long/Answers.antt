use Rattle.std.proofs.Common.{refl, sym, ◌∙◌}
use Rattle.std.proofs.lemmas.List.{take_rest}
use Rattle.sch_code.proofs.FirstByte.{long_nothing, long_load, long_in_register, long_imul}
use Rattle.sch_code.proofs.decoding.long.Goals as goal

pub returns-in_err-reg : goal.returns-in_err-reg
returns-in_err-reg c =
    c.from_residual.ensures
    ∙ long_nothing c.args.bytes.now _ _ refl (sym (take_rest c.args.bytes.now 1)) _ _ (sym c.is_empty.ensures ∙ c.if-is_empty.false) (sym c.operand.ensures.value ∙ c.in_err-reg.was)

pub returns-in-182 : goal.returns-in-182
returns-in-182 c =
    long_load c.args.bytes.now _ _ refl (sym (take_rest c.args.bytes.now 1)) _ _ _ _ _ (sym c.is_empty.ensures ∙ c.if-is_empty.false) (sym c.operand.ensures.value ∙ c.in_ok-reg.was) c.in-182.is (sym c.in_memory.ensures ∙ c.if-in_memory.true)

pub returns-in_default : goal.returns-in_default
returns-in_default c =
    long_in_register c.args.bytes.now _ _ refl (sym (take_rest c.args.bytes.now 1)) _ _ _ _ _ (sym c.is_empty.ensures ∙ c.if-is_empty.false) (sym c.operand.ensures.value ∙ c.in_ok-reg.was) c.in-182.is (sym c.in_memory.ensures ∙ c.if-in_memory.false)

pub returns-in-175 : goal.returns-in-175
returns-in-175 c =
    long_imul c.args.bytes.now _ _ refl (sym (take_rest c.args.bytes.now 1)) _ _ _ _ _ (sym c.is_empty.ensures ∙ c.if-is_empty.false) (sym c.operand.ensures.value ∙ c.in_ok-reg.was) c.in-175.is
