use Rattle.std.proofs.Common.{refl, sym, ◌∙◌}
use Rattle.std.proofs.lemmas.List.{take_rest}
use Rattle.sch_code.proofs.FirstByte.{rexed_nothing, rexed_narrow, rexed_full}
use Rattle.sch_code.proofs.decoding.rexed.Goals as goal

pub returns : goal.returns
returns c = c.full.ensures ∙ rexed_full _ _ _ _ (sym c.is_empty.ensures ∙ c.if-is_empty.false) c.if-w-eq0.false

pub returns-then-w-eq0 : goal.returns-then-w-eq0
returns-then-w-eq0 c = c.narrow.ensures ∙ rexed_narrow _ _ _ refl (sym (take_rest c.args.bytes.now 1)) _ _ _ (sym c.is_empty.ensures ∙ c.if-is_empty.false) c.if-w-eq0.true

pub returns-then-is_empty : goal.returns-then-is_empty
returns-then-is_empty c = rexed_nothing _ _ _ _ (sym c.is_empty.ensures ∙ c.if-is_empty.true)
