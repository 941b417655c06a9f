use Rattle.std.proofs.Common.{◌≡◌, ◌≤◌, drop, ◌++◌}
use Rattle.sch_shuffle.specs.View.{arguments, transfers_of}
use Rattle.sch_shuffle.specs.Plans.{transfers}
use Rattle.sch_shuffle.specs.Greedy.{evaluations}
use Rattle.sch_shuffle.proofs.moves.evaluate.Given as goal

abbrev pub invariant-loop-choice : goal.invariant-loop-choice
invariant-loop-choice l =
    (l.used ≤ l.choice-index)
    × (transfers_of l.list ++ transfers (arguments l.args) l.targets (evaluations l.free l.used (drop l.choice-index l.choices))
    ≡ transfers (arguments l.args) l.targets (evaluations l.free 0 l.choices))
