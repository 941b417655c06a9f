use Rattle.std.proofs.Common.{[], sym, subst, ◌≤◌}
use Rattle.std.specs.List.{list_all}
use Rattle.std.specs.Prelude.{IsTrue, false, true}
use Rattle.sch_asm.specs.Codes.{text_size}
use Rattle.sch_asm.specs.Effects.{AreEffective}
use Rattle.sch_asm.specs.Items.{AreItems, AreKnown, AreRoutines, IsEachOnce, labels_in, marks_arrive}
use Rattle.sch_asm.specs.Narrow.{is_narrow_item}
use Rattle.sch_runtime.specs.Form.{keeps_form}
use Rattle.sch_runtime.specs.FrameRegister.{leaves_frame}
use Rattle.sch_runtime.specs.HandedWord.{sets_first}
use Rattle.sch_runtime.specs.HeapRegister.{passes_by_numbers}
use Rattle.sch_runtime.proofs.AllForms.{routines_handed, routines_heap, routines_keep, routines_quiet}
use Rattle.sch_runtime.proofs.AllItems.{all_are_narrow, all_effective, all_joined, all_known, all_marked, all_once, all_small, all_sound}
use Rattle.sch_runtime.proofs.building.routines.Goals as goal

pub invariant_of-result : goal.invariant_of-result
invariant_of-result c =
    let end = c.args.heap_end in
    let e = sym c.in_ok-items.ensures in
    record {
      sound = subst AreItems e (all_sound end c.requires);
      once = subst (λ is. IsEachOnce (labels_in is)) e (all_once end);
      known = subst (λ ws. AreKnown c.in_ok-items.items ws) (sym c.new.ensures) (subst (λ is. AreKnown is []) e (all_known end));
      marked = subst (λ is. IsTrue (marks_arrive false is)) e (all_marked end);
    }

pub returns-clause-joined : goal.returns-clause-joined
returns-clause-joined c =
    subst (λ ws. AreRoutines c.in_ok-items.items ws 0) (sym c.new.ensures) (subst (λ is. AreRoutines is [] 0) (sym c.in_ok-items.ensures) (all_joined c.args.heap_end))

pub returns-clause-effective : goal.returns-clause-effective
returns-clause-effective c = subst AreEffective (sym c.in_ok-items.ensures) (all_effective c.args.heap_end)

pub returns-clause-short : goal.returns-clause-short
returns-clause-short c = subst (λ is. text_size is ≤ 2560) (sym c.in_ok-items.ensures) (all_small c.args.heap_end)

pub returns-clause-form : goal.returns-clause-form
returns-clause-form c = subst (λ is. IsTrue (keeps_form is)) (sym c.in_ok-items.ensures) (routines_keep c.args.heap_end)

pub returns-clause-frame : goal.returns-clause-frame
returns-clause-frame c = subst (λ is. IsTrue (list_all leaves_frame is)) (sym c.in_ok-items.ensures) (routines_quiet c.args.heap_end)

pub returns-clause-handed : goal.returns-clause-handed
returns-clause-handed c = subst (λ is. IsTrue (sets_first true is)) (sym c.in_ok-items.ensures) (routines_handed c.args.heap_end)

pub returns-clause-heap : goal.returns-clause-heap
returns-clause-heap c = subst (λ is. IsTrue (list_all passes_by_numbers is)) (sym c.in_ok-items.ensures) (routines_heap c.args.heap_end)

pub returns-clause-narrow : goal.returns-clause-narrow
returns-clause-narrow c = subst (λ is. IsTrue (list_all is_narrow_item is)) (sym c.in_ok-items.ensures) (all_are_narrow c.args.heap_end)
