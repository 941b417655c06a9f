use Rattle.std.proofs.Common.{◌≡◌, drop}
use Rattle.sch_lang.specs.View.{expressions_of}
use Rattle.sch_lang.proofs.ListViews.{left}
use Rattle.sch_core.specs.Excess.{first_excess}
use Rattle.sch_core.proofs.limits.first_excess.Given as goal

abbrev pub invariant-loop-i : goal.invariant-loop-i
invariant-loop-i l = first_excess (drop l.i l.places) (left (drop l.i l.forms)) ≡ first_excess l.places (expressions_of l.forms)
