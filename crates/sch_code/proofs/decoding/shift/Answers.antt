use Rattle.std.proofs.Common.{◌≡◌, ◌+◌, sym, ap, drop, Some, ◌∙◌, arith}
use Rattle.std.proofs.lemmas.List.{take_rest}
use Rattle.sch_insn.specs.Decode.{count_of}
use Rattle.sch_code.proofs.EndedForms.{chosen}
use Rattle.sch_code.proofs.decoding.shift.Goals as goal

pub returns : goal.returns
returns c =
    let read : count_of (drop (c.args.size + 1) c.args.bytes.now) ≡ Some c.in_ok-k.k = ap count_of (sym (take_rest c.args.bytes.now (c.args.size + 1))) ∙ sym c.count.ensures ∙ c.in_ok-k.was in
    chosen _ _ _ _ _ _ read (sym c.shift_form.ensures ∙ c.in_ok-i.was) (omega arith)
