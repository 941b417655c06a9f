use Rattle.std.proofs.Common.{◌≡◌, ◌-◌, ◌++◌, length, map}
use Rattle.sch_word.specs.trees.Bindings.{numbers}
use Rattle.sch_shuffle.specs.View.{arguments}
use Rattle.sch_shuffle.specs.CycleSearch.{rings, successor, places_at, cycles}
use Rattle.sch_shuffle.proofs.rings.cycles.Given as goal

abbrev pub invariant-loop-k : goal.invariant-loop-k
invariant-loop-k l =
    l.all ++ map (places_at l.targets) (rings (successor (arguments l.args) l.targets) (length l.targets) (numbers l.k (length l.targets - l.k)))
    ≡ cycles (arguments l.args) l.targets
