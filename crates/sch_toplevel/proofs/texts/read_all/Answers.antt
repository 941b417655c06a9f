use Rattle.std.proofs.Common.{ap, ◌∙◌}
use Rattle.sch_names.specs.NamesView.{names_of}
use Rattle.sch_sketch.specs.DraftView.{drafts_of}
use Rattle.sch_link_tables.specs.Named.{firsts}
use Rattle.sch_toplevel.specs.Assigned.{assigned_in_each}
use Rattle.sch_toplevel.specs.FormView.{sketches_at}
use Rattle.sch_toplevel.specs.Views.{given}
use Rattle.sch_toplevel.proofs.WholeTexts.{read_once, read_twice}
use Rattle.sch_toplevel.proofs.texts.read_all.Goals as goal
use Rattle.sch_toplevel.proofs.texts.read_all.Goals.{then-branch+in_ok-drafts-2, else-branch}

pub returns : goal.returns
returns c items listed =
    let seen = given c.args.seen.now in
    let ks = sketches_at c.args.forms.now in
    let g = c.in_ok-globals.globals in
    let own' = names_of c.adds_assigned.new.own in
    let f = c.read_forms.new.fault in
    let es = drafts_of c.in_ok-drafts.drafts in
    let bound = c.in_ok-globals.ensures.bound in
    let own = c.in_ok-globals.ensures.own in
    let internal = c.in_ok-globals.ensures.internal in
    let first = c.in_ok-drafts.ensures in
    let assigned = c.in_ok-adds_assigned.ensures.own ∙ ap (λ l. firsts (names_of g.own) (assigned_in_each (drafts_of l))) c.as_slice.ensures in
    elim c.if-branch.branch [
      | then-branch+in_ok-drafts-2 w ↦
          let f' = w.read_forms-then-branch.new.fault in
          let es' = drafts_of w.in_ok-drafts-2.drafts in
          let second = w.in_ok-drafts-2.ensures in
          rw (w.fault-is, w.drafts-is) (read_twice seen items ks listed (names_of g.bound) (names_of g.own) g.internal bound own internal own' f f' es es' first assigned second)
      | else-branch w ↦
          rw (w.fault-is, w.drafts-is) (read_once seen items ks listed (names_of g.bound) (names_of g.own) g.internal bound own internal own' f es first assigned
          (c.in_ok-adds_assigned.ensures.same w.if-branch.false))
    ]
