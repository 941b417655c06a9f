use Rattle.std.proofs.Common.{◌≡◌, ◌++◌, drop, map}
use Rattle.sch_flat.specs.View.{new_cell}
use Rattle.sch_closure.specs.Closed.{placed}
use Rattle.sch_closure.proofs.closing.place_cells.Given as goal

abbrev pub invariant-loop-c : goal.invariant-loop-c
invariant-loop-c l = record { made : map new_cell l.all ++ map (placed l.fields) (drop l.c-index l.cs) ≡ map (placed l.fields) l.cs }
