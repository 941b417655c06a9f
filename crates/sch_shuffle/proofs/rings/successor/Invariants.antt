use Rattle.std.proofs.Common.{◌≡◌, ◌-◌, length}
use Rattle.sch_shuffle.specs.View.{arguments}
use Rattle.sch_shuffle.specs.Assignment.{operand_at, place_at}
use Rattle.sch_shuffle.specs.CycleSearch.{stands_in, first, successor}
use Rattle.sch_shuffle.proofs.rings.successor.Given as goal

abbrev pub invariant-loop-j : goal.invariant-loop-j
invariant-loop-j l =
    first (λ j. stands_in (operand_at (arguments l.args) l.i) (place_at l.targets j)) (length l.targets - l.j) l.j ≡ successor (arguments l.args) l.targets l.i
