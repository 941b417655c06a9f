use Rattle.std.proofs.Common.{◌∙◌, ◌+◌, ◌-◌, ap, drop, length, sym, take}
use Rattle.sch_regs.specs.Shows.{each_with_held}
use Rattle.sch_regs.proofs.ChoiceSteps.{next_held, none_left}
use Rattle.sch_regs.proofs.choice.+hold_each.Goals as goal

pub returns-in_default : goal.returns-in_default
returns-in_default g t c = none_left c.args.registers.now c.args.k c.args.y c.args.p c.args.held.now.items c.in_default.len_below

pub returns : goal.returns
returns g t c =
    let registers = c.args.registers.now in
    c.hold_each.ensures
    ∙ (ap (λ sets. each_with_held (take (length registers - 1) (drop 1 registers)) (c.args.k + 1) sets c.args.y c.args.p) c.hold.ensures
    ∙ sym (next_held registers c.args.k c.args.y c.args.p c.args.held.now.items c.in-len1-up.len_at_least))
