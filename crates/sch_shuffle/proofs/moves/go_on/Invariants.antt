use Rattle.std.proofs.Common.{◌≡◌, ◌≤◌, drop, ◌++◌}
use Rattle.sch_shuffle.specs.View.{arguments, transfers_of}
use Rattle.sch_shuffle.specs.Plans.{transfers}
use Rattle.sch_shuffle.specs.Greedy.{onwards}
use Rattle.sch_shuffle.proofs.moves.go_on.Given as goal

abbrev pub invariant-loop-choice : goal.invariant-loop-choice
invariant-loop-choice l =
    (l.used ≤ l.choice-index)
    × (transfers_of l.list ++ transfers (arguments l.args) l.targets (onwards l.free l.used (drop l.choice-index l.choices))
    ≡ transfers_of l.fn.before ++ transfers (arguments l.args) l.targets (onwards l.free 0 l.choices))
