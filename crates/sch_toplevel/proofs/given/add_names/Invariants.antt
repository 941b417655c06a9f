use Rattle.std.proofs.Common.{◌≡◌, drop}
use Rattle.sch_names.specs.NamesView.{names_of}
use Rattle.sch_link_tables.specs.Named.{firsts}
use Rattle.sch_toplevel.specs.Views.{given}
use Rattle.sch_toplevel.proofs.given.add_names.Given as goal

abbrev pub invariant-loop-x : goal.invariant-loop-x
invariant-loop-x l = firsts (names_of l.names) (given (drop l.x-index l.xs)) ≡ firsts (names_of l.initial.names) (given l.xs)
