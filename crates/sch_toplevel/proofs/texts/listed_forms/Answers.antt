use Rattle.std.proofs.Common.{◌++◌, map, ap, ◌∙◌}
use Rattle.sch_read.specs.Parts.{offset}
use Rattle.sch_read.specs.Views.{data_of}
use Rattle.sch_toplevel.specs.Forms.{forms_in, form_sketch}
use Rattle.sch_toplevel.specs.FormView.{places_at, sketches_at}
use Rattle.sch_toplevel.proofs.texts.listed_forms.Goals as goal

pub returns-clause-sketches : goal.returns-clause-sketches
returns-clause-sketches c =
    c.in_ok-add_forms.ensures.sketches
    ∙ ap (λ l. sketches_at l ++ map form_sketch (forms_in (data_of c.args.items.now))) (c.from_vec-forms.ensures ∙ c.in_ok-room.ensures.items)

pub returns-clause-places : goal.returns-clause-places
returns-clause-places c =
    c.in_ok-add_forms.ensures.places
    ∙ ap (λ l. places_at l ++ map offset (forms_in (data_of c.args.items.now))) (c.from_vec-forms.ensures ∙ c.in_ok-room.ensures.items)
