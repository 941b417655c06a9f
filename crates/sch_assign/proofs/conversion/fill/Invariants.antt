use Rattle.std.proofs.Common.{◌≡◌, ◌+◌, ◌-◌}
use Rattle.sch_cells.specs.Tree.{Tree}
use Rattle.sch_cells.proofs.Rows.{and_then}
use Rattle.sch_assign.specs.Converted.{filling}
use Rattle.sch_word.specs.trees.Walk.{onto}
use Rattle.sch_assign.proofs.conversion.fill.Given as goal

abbrev pub invariant-loop-place : goal.invariant-loop-place
invariant-loop-place l = (e : Tree) → onto and_then l.all (filling l.n (l.first + l.place) (l.count - l.place) e) ≡ filling l.n l.first l.count e
