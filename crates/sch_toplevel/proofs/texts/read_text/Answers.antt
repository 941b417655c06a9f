use Rattle.std.proofs.Common.{ap, ◌∙◌}
use Rattle.sch_read.specs.Views.{data_of}
use Rattle.sch_toplevel.specs.FormView.{places_at, sketches_at}
use Rattle.sch_toplevel.proofs.texts.read_text.Goals as goal

pub returns-clause-read : goal.returns-clause-read
returns-clause-read c =
    c.in_ok-read.ensures (data_of c.args.items.now) (ap sketches_at c.as_slice-2.ensures ∙ c.in_ok-forms.ensures.sketches)

pub returns-clause-places : goal.returns-clause-places
returns-clause-places c = c.in_ok-places.ensures ∙ ap places_at c.as_slice.ensures ∙ c.in_ok-forms.ensures.places
