use Rattle.std.proofs.Common.{ap, sym, ◌∙◌, subst}
use Rattle.std.specs.Prelude.{◌&&◌, not}
use Rattle.std.specs.FinSet as set
use Rattle.sch_word.specs.trees.NumberSets.{has}
use Rattle.sch_control.specs.AtomsAndSites.{member_atoms}
use Rattle.sch_control.specs.Tree.{perform, bind, sequence, branch, fix, call, tail_call, return, end, save}
use Rattle.sch_control.specs.Valid.{member_variables}
use Rattle.sch_control.specs.flow.RestoredView.{restored}
use Rattle.sch_control.specs.flow.Reads.{IsWith}
use Rattle.sch_regs.specs.SetsAsTests.{with_first}
use Rattle.sch_regs.proofs.NotedSteps.{of_tree, do_back, bind_back, sequence_back, branch_back, fix_back, call_back, tail_back, return_back, end_back}
use Rattle.sch_regs.proofs.noting.+note.Goals as goal

pub returns-in-Do : goal.returns-in-Do
returns-in-Do g t c =
    of_tree (restored c.args.e.now) (perform c.in-Do.o) _ _ _ _ _ (ap restored c.in-Do.is)
    (do_back c.in-Do.o c.args.on_true.now c.args.on_false.now c.after_operation.result c.read_operation.new.live c.args.noted.now.items c.after_operation.ensures
    c.read_operation.ensures)

pub returns-in-Bind : goal.returns-in-Bind
returns-in-Bind g t c =
    of_tree (restored c.args.e.now) (bind c.in-Bind.y (restored c.in-Bind.a.value) (restored c.in-Bind.b.value)) _ _ _ _ _ (ap restored c.in-Bind.is)
    (bind_back c.in-Bind.y (restored c.in-Bind.a.value) (restored c.in-Bind.b.value) c.args.on_true.now c.args.on_false.now c.note.new.before c.remove.new.self
    c.copy-across.result c.note-in-Bind.new.before c.args.noted.now.items c.note.new.noted.items c.set_noted.new.noted.items c.note-in-Bind.new.noted.items
    (of_tree (restored c.in-Bind.b.value) (restored c.deref.result.now) _ _ _ _ _ (ap restored (sym c.deref.ensures)) c.note.ensures) c.set_noted.ensures c.remove.ensures
    c.copy-across.ensures
    (of_tree (restored c.in-Bind.a.value) (restored c.deref-in-Bind.result.now) _ _ _ _ _ (ap restored (sym c.deref-in-Bind.ensures)) c.note-in-Bind.ensures))

pub returns-in-Seq : goal.returns-in-Seq
returns-in-Seq g t c =
    of_tree (restored c.args.e.now) (sequence (restored c.in-Seq.a.value) (restored c.in-Seq.b.value)) _ _ _ _ _ (ap restored c.in-Seq.is)
    (sequence_back (restored c.in-Seq.a.value) (restored c.in-Seq.b.value) c.args.on_true.now c.args.on_false.now c.note-in-Seq.new.before c.copy-behind.result
    c.note-in-Seq-2.new.before c.args.noted.now.items c.note-in-Seq.new.noted.items c.note-in-Seq-2.new.noted.items
    (of_tree (restored c.in-Seq.b.value) (restored c.deref-in-Seq.result.now) _ _ _ _ _ (ap restored (sym c.deref-in-Seq.ensures)) c.note-in-Seq.ensures) c.copy-behind.ensures
    (of_tree (restored c.in-Seq.a.value) (restored c.deref-in-Seq-2.result.now) _ _ _ _ _ (ap restored (sym c.deref-in-Seq-2.ensures)) c.note-in-Seq-2.ensures))

pub returns-in-If : goal.returns-in-If
returns-in-If g t c =
    of_tree (restored c.args.e.now) (branch (restored c.in-If.a.value) (restored c.in-If.b.value) (restored c.in-If.c.value)) _ _ _ _ _ (ap restored c.in-If.is)
    (branch_back (restored c.in-If.a.value) (restored c.in-If.b.value) (restored c.in-If.c.value) c.args.on_true.now c.args.on_false.now c.note-in-If.new.before
    c.note-in-If-2.new.before c.copy-first.result c.note-in-If-3.new.before c.args.noted.now.items c.note-in-If.new.noted.items c.note-in-If-2.new.noted.items
    c.note-in-If-3.new.noted.items
    (of_tree (restored c.in-If.c.value) (restored c.deref-in-If.result.now) _ _ _ _ _ (ap restored (sym c.deref-in-If.ensures)) c.note-in-If.ensures)
    (of_tree (restored c.in-If.b.value) (restored c.deref-in-If-2.result.now) _ _ _ _ _ (ap restored (sym c.deref-in-If-2.ensures)) c.note-in-If-2.ensures) c.copy-first.ensures
    (of_tree (restored c.in-If.a.value) (restored c.deref-in-If-3.result.now) _ _ _ _ _ (ap restored (sym c.deref-in-If-3.ensures)) c.note-in-If-3.ensures))

pub returns-in-Fix : goal.returns-in-Fix
returns-in-Fix g t c =
    of_tree (restored c.args.e.now) (fix c.in-Fix.members (restored c.in-Fix.e.value)) _ _ _ _ _ (ap restored c.in-Fix.is)
    (fix_back c.in-Fix.members (restored c.in-Fix.e.value) c.args.on_true.now c.args.on_false.now c.note-in-Fix.new.before c.read_members.new.live c.remove_members.new.live
    c.args.noted.now.items c.note-in-Fix.new.noted.items c.set_first.new.noted.items
    (of_tree (restored c.in-Fix.e.value) (restored c.deref-in-Fix.result.now) _ _ _ _ _ (ap restored (sym c.deref-in-Fix.ensures)) c.note-in-Fix.ensures)
    (subst (λ ms. IsWith (member_atoms ms) c.note-in-Fix.new.before c.read_members.new.live) c.as_slice.ensures c.read_members.ensures)
    (c.set_first.ensures ∙ ap (λ ms. with_first ms c.read_members.new.live c.note-in-Fix.new.noted.items) c.as_slice-in-Fix.ensures)
    (λ x. c.remove_members.ensures x ∙ ap (λ ms. not (has x (member_variables ms)) && set.contains c.read_members.new.live x) c.as_slice-in-Fix-2.ensures))

pub returns-in-Call : goal.returns-in-Call
returns-in-Call g t c =
    of_tree (restored c.args.e.now) (call c.in-Call.a c.in-Call.field-1.restores) _ _ _ _ _ (ap restored c.in-Call.is)
    (call_back c.in-Call.a c.in-Call.field-1.restores c.args.on_true.now c.args.on_false.now c.union.result c.read_application.new.live c.args.noted.now.items c.union.ensures
    c.read_application.ensures)

pub returns-in-TailCall : goal.returns-in-TailCall
returns-in-TailCall g t c =
    of_tree (restored c.args.e.now) (tail_call c.in-TailCall.a) _ _ _ _ _ (ap restored c.in-TailCall.is)
    (tail_back c.in-TailCall.a c.args.on_true.now c.args.on_false.now c.new.result c.insert.new.self c.read_application-in-TailCall.new.live c.args.noted.now.items c.new.ensures
    c.insert.ensures c.read_application-in-TailCall.ensures)

pub returns-in-Return : goal.returns-in-Return
returns-in-Return g t c =
    of_tree (restored c.args.e.now) (return (restored c.in-Return.e.value)) _ _ _ _ _ (ap restored c.in-Return.is)
    (return_back (restored c.in-Return.e.value) c.args.on_true.now c.args.on_false.now c.new-link.result c.insert-in-Return.new.self c.note-in-Return.new.before
    c.args.noted.now.items c.note-in-Return.new.noted.items c.new-link.ensures c.insert-in-Return.ensures
    (of_tree (restored c.in-Return.e.value) (restored c.deref-in-Return.result.now) _ _ _ _ _ (ap restored (sym c.deref-in-Return.ensures)) c.note-in-Return.ensures))

pub returns-in-End : goal.returns-in-End
returns-in-End g t c =
    of_tree (restored c.args.e.now) (end (restored c.in-End.e.value)) _ _ _ _ _ (ap restored c.in-End.is)
    (end_back (restored c.in-End.e.value) c.args.on_true.now c.args.on_false.now c.new-none.result c.note-in-End.new.before c.args.noted.now.items
    c.note-in-End.new.noted.items c.new-none.ensures
    (of_tree (restored c.in-End.e.value) (restored c.deref-in-End.result.now) _ _ _ _ _ (ap restored (sym c.deref-in-End.ensures)) c.note-in-End.ensures))

pub returns-in-Save : goal.returns-in-Save
returns-in-Save g t c =
    of_tree (restored c.args.e.now) (save c.in-Save.field-0 (restored c.in-Save.e.value)) _ _ _ _ _ (ap restored c.in-Save.is)
    (of_tree (restored c.in-Save.e.value) (restored c.deref-in-Save.result.now) _ _ _ _ _ (ap restored (sym c.deref-in-Save.ensures)) c.note-in-Save.ensures)
