use Rattle.std.proofs.Common.{◌≡◌, drop}
use Rattle.sch_names.specs.NamesView.{names_of}
use Rattle.sch_link_tables.specs.Named.{firsts}
use Rattle.sch_toplevel.specs.FormView.{sketches_at}
use Rattle.sch_toplevel.specs.Forms.{defined_by_each}
use Rattle.sch_toplevel.proofs.forms.add_defined_by_each.Given as goal

abbrev pub invariant-loop-form : goal.invariant-loop-form
invariant-loop-form l = record {
  bound : firsts (names_of l.globals.bound) (defined_by_each (sketches_at (drop l.form-index l.forms))) ≡ firsts (names_of l.initial.globals.bound) (defined_by_each (sketches_at l.forms));
  own : firsts (names_of l.globals.own) (defined_by_each (sketches_at (drop l.form-index l.forms))) ≡ firsts (names_of l.initial.globals.own) (defined_by_each (sketches_at l.forms));
  internal : l.globals.internal ≡ l.initial.globals.internal;
}
