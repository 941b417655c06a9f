use Rattle.std.proofs.Common.{◌≡◌, drop}
use Rattle.sch_word.specs.trees.NumberSets.{has}
use Rattle.sch_word.proofs.numbers.is_in.Given as goal

abbrev pub invariant-loop-y : goal.invariant-loop-y
invariant-loop-y l = record { left : has l.x (drop l.y-index l.xs) ≡ has l.x l.xs }
