use Rattle.std.proofs.Common.{◌∙◌, length, refl}
use Rattle.sch_sketch.specs.DraftView.{draft_of, drafts_of}
use Rattle.sch_link_tables.specs.Assigned.{assigns, assigns_each}
use Rattle.sch_link_tables.proofs.DraftLists.{width_is}
use Rattle.sch_link_tables.proofs.MarkSteps.{two_walks, none_for}
use Rattle.sch_link_tables.proofs.assigned.none_assigned.Goals as goal

pub returns : goal.returns
returns c =
    c.none_marked.ensures
    ∙ none_for (drafts_of c.args.es.now) (draft_of c.args.e.now) (length c.args.es.now) c.mark.new.marks (width_is c.args.es.now refl refl)
    (two_walks (assigns_each (drafts_of c.args.es.now)) (assigns (draft_of c.args.e.now)) (length c.args.es.now) c.as_mut_slice-marks.result.now c.mark_each.new.marks c.mark.new.marks (c.as_mut_slice-marks.ensures.value ∙ c.in_ok-all.ensures) c.mark_each.ensures c.mark.ensures)
