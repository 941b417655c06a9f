use Rattle.std.proofs.Common.{◌≡◌, ◌++◌, reverse, drop}
use Rattle.sch_word.specs.trees.Bindings.{without}
use Rattle.sch_closure.proofs.gathering.outside_group.Given as goal

abbrev pub invariant-loop-x : goal.invariant-loop-x
invariant-loop-x l = record { left : without l.first l.count (reverse (drop l.x-index l.xs)) ++ reverse l.left.items ≡ without l.first l.count (reverse l.xs) }
