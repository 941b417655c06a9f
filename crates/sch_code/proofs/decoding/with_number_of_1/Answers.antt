use Rattle.std.proofs.Common.{◌≡◌, ◌+◌, rules, to_z, of_z, w8, sym, ap, drop, Some, ◌∙◌, arith}
use Rattle.std.proofs.lemmas.List.{take_rest}
use Rattle.sch_insn.specs.Decode.{number_of_1}
use Rattle.sch_code.proofs.EndedForms.{chosen}
use Rattle.sch_code.proofs.decoding.with_number_of_1.Goals as goal

pub returns : goal.returns
returns c =
    let same : to_z w8 (of_z w8 c.in_ok-n.n) ≡ c.in_ok-n.n = search rules in
    let read : number_of_1 (drop (c.args.size + 1) c.args.bytes.now) ≡ Some c.in_ok-n.n = ap number_of_1 (sym (take_rest c.args.bytes.now (c.args.size + 1))) ∙ sym c.number_of_1.ensures.value ∙ c.in_ok-n.was in
    chosen _ _ _ _ _ _ read (rw same at (sym c.number_form_of_1.ensures ∙ c.in_ok-i.was)) (omega arith)
