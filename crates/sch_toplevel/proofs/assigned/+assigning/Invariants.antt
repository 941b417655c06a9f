use Rattle.std.proofs.Common.{◌≡◌, drop}
use Rattle.sch_names.specs.NamesView.{names_of}
use Rattle.sch_sketch.specs.DraftView.{drafts_of}
use Rattle.sch_link_tables.specs.Named.{firsts}
use Rattle.sch_toplevel.specs.Assigned.{assigned_in_each}
use Rattle.sch_toplevel.proofs.assigned.+assigning.Given as goal

abbrev pub invariant-add_assigned_each-loop-e : goal.invariant-add_assigned_each-loop-e
invariant-add_assigned_each-loop-e l =
    firsts (names_of l.names) (assigned_in_each (drafts_of (drop l.e-index l.es))) ≡ firsts (names_of l.initial.names) (assigned_in_each (drafts_of l.es))
