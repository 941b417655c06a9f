use Rattle.std.proofs.Common.{◌≡◌, drop}
use Rattle.sch_word.specs.trees.NumberSets.{has}
use Rattle.sch_cells.specs.Variables.{cells_bound}
use Rattle.sch_closure.proofs.gathering.is_cell.Given as goal

abbrev pub invariant-loop-c : goal.invariant-loop-c
invariant-loop-c l = record { left : has l.x (cells_bound (drop l.c-index l.cs)) ≡ has l.x (cells_bound l.cs) }
