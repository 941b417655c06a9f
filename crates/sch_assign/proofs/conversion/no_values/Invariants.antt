use Rattle.std.proofs.Common.{◌≡◌, ◌+◌, ◌-◌, ◌++◌}
use Rattle.sch_assign.specs.Converted.{empty_cells}
use Rattle.sch_assign.proofs.conversion.no_values.Given as goal

abbrev pub invariant-loop-place : goal.invariant-loop-place
invariant-loop-place l = l.all ++ empty_cells l.n (l.first + l.place) (l.count - l.place) ≡ empty_cells l.n l.first l.count
