use Rattle.std.proofs.Common.{◌≡◌, ◌+◌, ◌-◌, ◌++◌}
use Rattle.sch_assign.specs.Converted.{cells_for}
use Rattle.sch_assign.specs.Table.{table}
use Rattle.sch_assign.proofs.conversion.cells.Given as goal

abbrev pub invariant-loop-place : goal.invariant-loop-place
invariant-loop-place l = l.all ++ cells_for (table l.celled) l.n (l.first + l.place) (l.count - l.place) ≡ cells_for (table l.celled) l.n l.first l.count
