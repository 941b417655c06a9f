use Rattle.std.proofs.Common.{◌≡◌, ◌++◌, reverse, drop}
use Rattle.sch_lang.specs.Variables.{outside}
use Rattle.sch_variable_counts.proofs.free.outside_group.Given as goal

abbrev pub invariant-loop-x : goal.invariant-loop-x
invariant-loop-x l = outside l.count (reverse (drop l.x-index l.xs)) ++ reverse l.left.items ≡ outside l.count (reverse l.xs)
