use Rattle.std.proofs.Common.{◌≡◌, rules, to_z, of_z, w32, sym, ap, ◌∙◌}
use Rattle.sch_insn.specs.Spelling.{spelling}
use Rattle.sch_code.proofs.encoding.put_spelling.Goals as goal

pub returns-in-MovNumber : goal.returns-in-MovNumber
returns-in-MovNumber c =
    let same : to_z w32 (of_z w32 c.in-MovNumber.n) ≡ c.in-MovNumber.n = search rules in (rw same at c.put_wide_and_4.ensures) ∙ ap spelling (sym c.in-MovNumber.is)

pub returns-in-StoreByte : goal.returns-in-StoreByte
returns-in-StoreByte c = c.put_narrow.ensures.spelled ∙ ap spelling (sym c.in-StoreByte.is)

pub returns-in-LoadByte : goal.returns-in-LoadByte
returns-in-LoadByte c = c.put_long.ensures.spelled ∙ ap spelling (sym c.in-LoadByte.is)

pub returns-in-Imul : goal.returns-in-Imul
returns-in-Imul c = c.put_long-in-Imul.ensures.spelled ∙ ap spelling (sym c.in-Imul.is)

pub returns-in-Neg : goal.returns-in-Neg
returns-in-Neg c = c.put_wide.ensures.spelled ∙ ap spelling (sym c.in-Neg.is)

pub returns-in-Idiv : goal.returns-in-Idiv
returns-in-Idiv c = c.put_wide-in-Idiv.ensures.spelled ∙ ap spelling (sym c.in-Idiv.is)

pub returns-in-Shl : goal.returns-in-Shl
returns-in-Shl c = c.put_shift.ensures ∙ ap spelling (sym c.in-Shl.is)

pub returns-in-Shr : goal.returns-in-Shr
returns-in-Shr c = c.put_shift-in-Shr.ensures ∙ ap spelling (sym c.in-Shr.is)

pub returns-in-Sar : goal.returns-in-Sar
returns-in-Sar c = c.put_shift-in-Sar.ensures ∙ ap spelling (sym c.in-Sar.is)

pub returns-in-JumpTo : goal.returns-in-JumpTo
returns-in-JumpTo c = c.put_narrow-in-JumpTo.ensures.spelled ∙ ap spelling (sym c.in-JumpTo.is)

pub returns-in-MovWord : goal.returns-in-MovWord
returns-in-MovWord c = c.put_bare.ensures

pub returns-in-AddNumber : goal.returns-in-AddNumber
returns-in-AddNumber c = c.put_number.ensures

pub returns-in-MovFrom : goal.returns-in-MovFrom
returns-in-MovFrom c = c.put_from.ensures

pub returns-in-MovTo : goal.returns-in-MovTo
returns-in-MovTo c = c.put_to.ensures
