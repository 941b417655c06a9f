use Rattle.std.proofs.Common.{ap, refl, sym, ◌∙◌}
use Rattle.sch_variable_counts.proofs.ListsLeft.{whole}
use Rattle.sch_core.specs.Excess.{first_excess}
use Rattle.sch_core.proofs.ExcessSteps.{excess_here, excess_later, excess_end}
use Rattle.sch_core.proofs.limits.first_excess.Goals as goal

pub loop-i-init : goal.loop-i-init
loop-i-init c = ap (first_excess c.args.places.now) (whole c.args.forms.now)

pub loop-i-preserved : goal.loop-i-preserved
loop-i-preserved c =
    excess_later c.args.places.now c.args.forms.now c.loop-i.i c.min-n.result c.min-n.ensures _ c.loop-i.invariant c.index-forms-i.result c.loop-i-test.true c.index-forms-i.is
    (sym c.in_default.is ∙ c.in_ok-kind.ensures)

pub returns-in-Some : goal.returns-in-Some
returns-in-Some c =
    excess_here c.args.places.now c.args.forms.now c.loop-i.i c.min-n.result c.min-n.ensures _ c.loop-i.invariant c.index-forms-i.result _ c.in-Some.kind c.loop-i-test.true c.index-forms-i.is refl
    (sym c.in-Some.is ∙ c.in_ok-kind.ensures)

pub returns : goal.returns
returns c =
    excess_end c.args.places.now c.args.forms.now c.loop-i.i c.min-n.result c.min-n.ensures _ c.loop-i.invariant c.loop-i-test.false
