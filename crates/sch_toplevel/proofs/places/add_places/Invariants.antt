use Rattle.std.proofs.Common.{◌≡◌, ◌++◌, drop}
use Rattle.sch_toplevel.specs.FormView.{places_at}
use Rattle.sch_toplevel.proofs.places.add_places.Given as goal

abbrev pub invariant-loop-form : goal.invariant-loop-form
invariant-loop-form l = l.places ++ places_at (drop l.form-index l.forms) ≡ l.initial.places ++ places_at l.forms
