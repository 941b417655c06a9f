use Rattle.std.proofs.Common.{◌≡◌, ◌+◌, ◌-◌, ◌≤◌, length}
use Rattle.sch_word.specs.trees.Bindings.{numbers}
use Rattle.sch_shuffle.specs.View.{arguments}
use Rattle.sch_shuffle.specs.Greedy.{uses_target, needed}
use Rattle.sch_shuffle.proofs.choice.users.Given as goal

abbrev pub invariant-loop-j : goal.invariant-loop-j
invariant-loop-j l =
    let W = uses_target (arguments l.args) l.targets in
    (l.count ≤ l.j) × (l.count + needed W (numbers l.j (length l.args - l.j)) l.k ≡ needed W (numbers 0 (length l.args)) l.k)
