use Rattle.std.proofs.Common.{ap, subst}
use Rattle.sch_control.specs.flow.RestoredView.{restored}
use Rattle.sch_regs.specs.SetsAsTests.{noted_in}
use Rattle.sch_regs.specs.Shows.{Shows}
use Rattle.sch_regs.proofs.ChoiceSteps.{bind_walk, sequence_walk, branch_walk, fix_walk}
use Rattle.sch_regs.proofs.assigning.+assign.Goals as goal

pub returns-in-Bind : goal.returns-in-Bind
returns-in-Bind g t c count u h =
    subst (λ z. Shows count c.assign-in-Bind.new.placing z)
    (bind_walk (noted_in c.args.noted.now) c.in-Bind.y (restored c.in-Bind.a.value) (restored c.in-Bind.b.value) (restored c.deref.result.now) (restored c.deref-in-Bind.result.now)
    (restored c.args.e.now) u (ap restored c.in-Bind.is) (ap restored c.deref.ensures) (ap restored c.deref-in-Bind.ensures))
    (c.assign-in-Bind.ensures count _ (c.choose_one.ensures count _ (c.assign.ensures count u h)))

pub returns-in-Seq : goal.returns-in-Seq
returns-in-Seq g t c count u h =
    subst (λ z. Shows count c.assign-in-Seq-2.new.placing z)
    (sequence_walk (noted_in c.args.noted.now) (restored c.in-Seq.a.value) (restored c.in-Seq.b.value) (restored c.deref-in-Seq.result.now) (restored c.deref-in-Seq-2.result.now)
    (restored c.args.e.now) u (ap restored c.in-Seq.is) (ap restored c.deref-in-Seq.ensures) (ap restored c.deref-in-Seq-2.ensures))
    (c.assign-in-Seq-2.ensures count _ (c.assign-in-Seq.ensures count u h))

pub returns-in-If : goal.returns-in-If
returns-in-If g t c count u h =
    subst (λ z. Shows count c.assign-in-If-3.new.placing z)
    (branch_walk (noted_in c.args.noted.now) (restored c.in-If.a.value) (restored c.in-If.b.value) (restored c.in-If.c.value) (restored c.deref-in-If.result.now)
    (restored c.deref-in-If-2.result.now) (restored c.deref-in-If-3.result.now) (restored c.args.e.now) u (ap restored c.in-If.is) (ap restored c.deref-in-If.ensures)
    (ap restored c.deref-in-If-2.ensures) (ap restored c.deref-in-If-3.ensures))
    (c.assign-in-If-3.ensures count _ (c.assign-in-If-2.ensures count _ (c.assign-in-If.ensures count u h)))

pub returns-in-Fix : goal.returns-in-Fix
returns-in-Fix g t c count u h =
    subst (λ z. Shows count c.assign-in-Fix.new.placing z)
    (fix_walk (noted_in c.args.noted.now) c.in-Fix.members (restored c.in-Fix.e.value) (restored c.deref-in-Fix.result.now) (restored c.args.e.now) u (ap restored c.in-Fix.is)
    (ap restored c.deref-in-Fix.ensures))
    (c.assign-in-Fix.ensures count _ (c.choose_group.ensures count u h))
