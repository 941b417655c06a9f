use Rattle.std.proofs.Common.{◌≡◌}
use Rattle.sch_word.specs.trees.Bindings.{numbers}
use Rattle.sch_homes.proofs.straight_calls.straight_order.Given as goal

abbrev pub invariant-loop-k : goal.invariant-loop-k
invariant-loop-k l = l.order ≡ numbers 0 l.k
