use Rattle.std.proofs.Common.{refl, sym, ◌∙◌}
use Rattle.std.proofs.lemmas.List.{take_rest}
use Rattle.sch_code.proofs.FirstByte.{read_nothing, read_rexed, read_escaped, read_jump}
use Rattle.sch_code.proofs.decoding.read.Goals as goal

pub returns : goal.returns
returns c =
    c.jump.ensures
    ∙ read_jump _ _ _ refl (sym (take_rest c.args.bytes.now 1)) (sym c.is_empty.ensures ∙ c.if-is_empty.false) (sym c.is_rex.ensures ∙ c.if-is_rex.false) c.if-first-eq15.false

pub returns-then-first-eq15 : goal.returns-then-first-eq15
returns-then-first-eq15 c =
    c.escaped.ensures
    ∙ read_escaped _ _ _ refl (sym (take_rest c.args.bytes.now 1)) (sym c.is_empty.ensures ∙ c.if-is_empty.false) (sym c.is_rex.ensures ∙ c.if-is_rex.false) c.if-first-eq15.true

pub returns-then-is_rex : goal.returns-then-is_rex
returns-then-is_rex c =
    c.rexed.ensures
    ∙ read_rexed _ _ _ refl (sym (take_rest c.args.bytes.now 1)) (sym c.is_empty.ensures ∙ c.if-is_empty.false) (sym c.is_rex.ensures ∙ c.if-is_rex.true)

pub returns-then-is_empty : goal.returns-then-is_empty
returns-then-is_empty c = read_nothing _ (sym c.is_empty.ensures ∙ c.if-is_empty.true)
