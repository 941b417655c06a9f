use Rattle.std.proofs.Common.{◌≡◌, drop}
use Rattle.sch_read.specs.Views.{data_of}
use Rattle.sch_form_choices.specs.Cases as table
use Rattle.sch_form_choices.proofs.cases.are_cases.Given as goal

abbrev pub invariant-loop-i : goal.invariant-loop-i
invariant-loop-i l = table.are_cases l.scope (data_of (drop l.i l.items)) ≡ table.are_cases l.scope (data_of l.items)
