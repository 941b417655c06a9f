use Rattle.std.proofs.Common.{◌≡◌, ℕ, ◌<◌, length, slice_index}
use Rattle.sch_shuffle.specs.View.{arguments}
use Rattle.sch_shuffle.specs.CycleSearch.{successor}
use Rattle.sch_shuffle.proofs.rings.all_successors.Given as goal

abbrev pub invariant-loop-i : goal.invariant-loop-i
invariant-loop-i l =
    (length l.all.items ≡ l.i) × ((k : ℕ) → k < l.i → slice_index l.all.items k ≡ successor (arguments l.args) l.targets k)
