use Rattle.std.proofs.Common.{◌≡◌, ◌≤◌, length, reverse, take}
use Rattle.sch_closure.specs.Found.{found_cells}
use Rattle.sch_closure.proofs.gathering.insert_contents.Given as goal

abbrev pub invariant-loop-left : goal.invariant-loop-left
invariant-loop-left l = record {
  free : found_cells (take l.left l.cs) (reverse l.xs.items) ≡ found_cells l.cs (reverse l.initial.xs.items);
  bound : l.left ≤ length l.cs;
}

abbrev pub decreases-loop-left : goal.decreases-loop-left
decreases-loop-left l = l.left
