use Rattle.std.proofs.Common.{sym, ap, ◌∙◌}
use Rattle.sch_insn.specs.Spelling.{spelling}
use Rattle.sch_code.proofs.encoding.put_to.Goals as goal

pub returns-in-MovTo : goal.returns-in-MovTo
returns-in-MovTo c = c.put_wide.ensures.spelled ∙ ap spelling (sym c.in-MovTo.is)

pub returns-in-AddTo : goal.returns-in-AddTo
returns-in-AddTo c = c.put_wide-in-AddTo.ensures.spelled ∙ ap spelling (sym c.in-AddTo.is)

pub returns-in-OrTo : goal.returns-in-OrTo
returns-in-OrTo c = c.put_wide-in-OrTo.ensures.spelled ∙ ap spelling (sym c.in-OrTo.is)

pub returns-in-AndTo : goal.returns-in-AndTo
returns-in-AndTo c = c.put_wide-in-AndTo.ensures.spelled ∙ ap spelling (sym c.in-AndTo.is)

pub returns-in-SubTo : goal.returns-in-SubTo
returns-in-SubTo c = c.put_wide-in-SubTo.ensures.spelled ∙ ap spelling (sym c.in-SubTo.is)

pub returns-in-XorTo : goal.returns-in-XorTo
returns-in-XorTo c = c.put_wide-in-XorTo.ensures.spelled ∙ ap spelling (sym c.in-XorTo.is)

pub returns-in-CmpTo : goal.returns-in-CmpTo
returns-in-CmpTo c = c.put_wide-in-CmpTo.ensures.spelled ∙ ap spelling (sym c.in-CmpTo.is)

pub returns-in-TestTo : goal.returns-in-TestTo
returns-in-TestTo c = c.put_wide-in-TestTo.ensures.spelled ∙ ap spelling (sym c.in-TestTo.is)
