use Rattle.std.proofs.Common.{◌≡◌, reverse, drop}
use Rattle.sch_word.specs.trees.NumberSets.{union}
use Rattle.sch_word.proofs.numbers.insert_numbers.Given as goal

abbrev pub invariant-loop-x : goal.invariant-loop-x
invariant-loop-x l = record { left : union (reverse (drop l.x-index l.more)) (reverse l.xs.items) ≡ union (reverse l.more) (reverse l.initial.xs.items) }
