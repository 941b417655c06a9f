use Rattle.std.proofs.Common.{◌≡◌, ◌++◌, reverse, drop}
use Rattle.sch_cells.specs.Variables.{cells_bound, without_each}
use Rattle.sch_closure.proofs.gathering.outside_cells.Given as goal

abbrev pub invariant-loop-x : goal.invariant-loop-x
invariant-loop-x l = record { left : without_each (cells_bound l.cs) (reverse (drop l.x-index l.xs)) ++ reverse l.left.items ≡ without_each (cells_bound l.cs) (reverse l.xs) }
