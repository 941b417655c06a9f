use Rattle.std.proofs.Common.{[], true, false, map, ap, refl, sym, subst, ◌∙◌}
use Rattle.std.proofs.lemmas.List.{drop_all}
use Rattle.sch_names.specs.NamesView.{globals_of}
use Rattle.sch_sketch.specs.declared.sketch.Position.TheVariants.{Value}
use Rattle.sch_sketch.specs.Draft.{no_drafts}
use Rattle.sch_sketch.specs.DraftView.{draft_of}
use Rattle.sch_sketch.specs.Sketch.{sketches, sequencing}
use Rattle.sch_expansion.specs.Following.{and_then}
use Rattle.sch_expansion.specs.Reads.{PartsRead}
use Rattle.sch_expansion.specs.Reads as re
use Rattle.sch_expansion.proofs.Stacks.{more_made}
use Rattle.sch_toplevel.specs.FormView.{sketches_at}
use Rattle.sch_toplevel.proofs.PartsRead.{any_first, next_form, all_made}
use Rattle.sch_toplevel.proofs.texts.read_each.Goals as goal

pub loop-form-init : goal.loop-form-init
loop-form-init c = λ b es r. rw c.requires.begins (any_first (globals_of c.args.globals.now) false true _ _ b es r)

pub loop-form-preserved : goal.loop-form-preserved
loop-form-preserved c = λ b es r.
    let g = globals_of c.args.globals.now in
    let n = next_form g c.args.forms.now c.loop-form.form-index c.form-item.result _ c.in_ok-e.e _ _ b es c.loop-form-test.true c.form-item.is refl c.in_ok-e.ensures r in
    let made = ap (λ l. and_then (map draft_of l) es) c.in_ok-push.ensures.ok ∙ more_made c.loop-form.reading.drafts c.in_ok-e.e es in
    subst (λ l. PartsRead g sequencing true 1 [] Value (sketches (sketches_at c.args.forms.now)) c.args.fault.now b l) (sym made) (c.loop-form.invariant b _ n)

pub returns : goal.returns
returns c =
    let g = globals_of c.args.globals.now in
    let r = c.loop-form.invariant c.loop-form.fault no_drafts
    (rw (drop_all c.loop-form.form-index c.args.forms.now c.loop-form-test.false) (re.reads_none sequencing false 1 [] Value c.loop-form.fault)) in
    subst (λ l. PartsRead g sequencing true 1 [] Value (sketches (sketches_at c.args.forms.now)) c.args.fault.now c.loop-form.fault l) (all_made c.loop-form.reading.drafts) r
