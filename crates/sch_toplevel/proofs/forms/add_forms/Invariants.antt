use Rattle.std.proofs.Common.{◌≡◌, ◌++◌, map}
use Rattle.sch_read.specs.Parts.{offset}
use Rattle.sch_read.specs.Valid.{weights}
use Rattle.sch_read.specs.Views.{data_of}
use Rattle.sch_toplevel.specs.FormView.{places_at, sketches_at}
use Rattle.sch_toplevel.specs.Forms.{forms_in, form_sketch}
use Rattle.sch_toplevel.proofs.forms.add_forms.Given as goal

-- what is left to visit completes the forms that are added
abbrev pub invariant-each : goal.invariant-each
invariant-each l = record {
  sketches : sketches_at l.forms ++ map form_sketch (forms_in (data_of l.left)) ≡ sketches_at l.initial.forms ++ map form_sketch (forms_in (data_of l.items));
  places : places_at l.forms ++ map offset (forms_in (data_of l.left)) ≡ places_at l.initial.forms ++ map offset (forms_in (data_of l.items));
}

abbrev pub decreases-each : goal.decreases-each
decreases-each l = weights (data_of l.left)
