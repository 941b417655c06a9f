use Rattle.std.proofs.Common.{ap, sym, subst}
use Rattle.sch_read.specs.DatumParts.{trees_of}
use Rattle.sch_read.specs.Views.{tree_of, data_of}
use Rattle.sch_read.proofs.DatumSteps.{each_gathered, less_left}
use Rattle.sch_core.specs.Quotable.{AreQuotable}
use Rattle.sch_core.proofs.DataKnown.{known_by_parts, trees_known}
use Rattle.sch_core.proofs.quotable.know_data.Goals as goal

pub each-init : goal.each-init
each-init c = λ h. subst (λ l. AreQuotable (trees_of l)) c.new-left.ensures h

pub each-smaller : goal.each-smaller
each-smaller c = less_left (tree_of c.in-Some.d.now) _ _ _ (ap trees_of c.in-Some.ensures) c.in_ok-enter_parts.ensures

pub each-preserved : goal.each-preserved
each-preserved c = λ h.
    let d = tree_of c.in-Some.d.now in
    let others = trees_of c.next.new.self in
    let k = known_by_parts d others c.know_own.ensures (subst AreQuotable c.in_ok-enter_parts.ensures h) in
    c.each.invariant (subst AreQuotable (sym (ap trees_of c.in-Some.ensures)) k)

pub returns : goal.returns
returns c =
    let none = rw c.in_default.is at c.next.ensures in
    let items = c.args.items.now in
    let known : AreQuotable (trees_of items) = c.each.invariant (subst AreQuotable (sym (ap trees_of none)) tt) in
    trees_known (data_of items) (subst AreQuotable (sym (each_gathered (trees_of items))) known)
