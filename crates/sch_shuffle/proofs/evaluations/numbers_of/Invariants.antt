use Rattle.std.proofs.Common.{◌≡◌, map, take}
use Rattle.sch_shuffle.specs.Greedy.{number_of}
use Rattle.sch_shuffle.proofs.evaluations.numbers_of.Given as goal

abbrev pub invariant-loop-choice : goal.invariant-loop-choice
invariant-loop-choice l = l.all ≡ map number_of (take l.choice-index l.choices)
