use Rattle.std.proofs.Common.{◌≡◌, ◌-◌, ◌++◌}
use Rattle.sch_word.specs.trees.Bindings.{numbers}
use Rattle.sch_shuffle.proofs.choice.all_numbers.Given as goal

abbrev pub invariant-loop-k : goal.invariant-loop-k
invariant-loop-k l = l.all.items ++ numbers l.k (l.count - l.k) ≡ numbers 0 l.count
