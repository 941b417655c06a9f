use Rattle.std.proofs.Common.{sym, ap, ◌∙◌}
use Rattle.sch_insn.specs.Spelling.{spelling}
use Rattle.sch_code.proofs.encoding.put_from.Goals as goal

pub returns-in-MovFrom : goal.returns-in-MovFrom
returns-in-MovFrom c = c.put_wide.ensures.spelled ∙ ap spelling (sym c.in-MovFrom.is)

pub returns-in-Lea : goal.returns-in-Lea
returns-in-Lea c = c.put_wide-in-Lea.ensures.spelled ∙ ap spelling (sym c.in-Lea.is)

pub returns-in-AddFrom : goal.returns-in-AddFrom
returns-in-AddFrom c = c.put_wide-in-AddFrom.ensures.spelled ∙ ap spelling (sym c.in-AddFrom.is)

pub returns-in-OrFrom : goal.returns-in-OrFrom
returns-in-OrFrom c = c.put_wide-in-OrFrom.ensures.spelled ∙ ap spelling (sym c.in-OrFrom.is)

pub returns-in-AndFrom : goal.returns-in-AndFrom
returns-in-AndFrom c = c.put_wide-in-AndFrom.ensures.spelled ∙ ap spelling (sym c.in-AndFrom.is)

pub returns-in-SubFrom : goal.returns-in-SubFrom
returns-in-SubFrom c = c.put_wide-in-SubFrom.ensures.spelled ∙ ap spelling (sym c.in-SubFrom.is)

pub returns-in-XorFrom : goal.returns-in-XorFrom
returns-in-XorFrom c = c.put_wide-in-XorFrom.ensures.spelled ∙ ap spelling (sym c.in-XorFrom.is)

pub returns-in-CmpFrom : goal.returns-in-CmpFrom
returns-in-CmpFrom c = c.put_wide-in-CmpFrom.ensures.spelled ∙ ap spelling (sym c.in-CmpFrom.is)
