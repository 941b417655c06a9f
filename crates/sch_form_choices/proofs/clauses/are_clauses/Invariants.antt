use Rattle.std.proofs.Common.{◌≡◌, drop}
use Rattle.sch_read.specs.Views.{data_of}
use Rattle.sch_form_choices.specs.Choices as table
use Rattle.sch_form_choices.proofs.clauses.are_clauses.Given as goal

abbrev pub invariant-loop-i : goal.invariant-loop-i
invariant-loop-i l = table.are_clauses l.scope (data_of (drop l.i l.items)) ≡ table.are_clauses l.scope (data_of l.items)
