use Rattle.std.proofs.Common.{◌≡◌, ℕ, ◌+◌, ◌-◌, ◌<◌, length, ◌++◌, slice_index}
use Rattle.sch_shuffle.specs.View.{arguments}
use Rattle.sch_shuffle.specs.Greedy.{uses_target, needed, choices, all_choices}
use Rattle.sch_shuffle.proofs.WaitingArguments.{Rising, AllBelow}
use Rattle.sch_shuffle.proofs.choice.all_choices.Given as goal

abbrev pub invariant-loop-turn : goal.invariant-loop-turn
invariant-loop-turn l =
    let W = uses_target (arguments l.args) l.targets in
    let n = length l.args in
    (length l.waiting.items + l._turn ≡ n) × Rising l.waiting.items × AllBelow n l.waiting.items
    × (length l.users.items ≡ n)
    × ((k : ℕ) → k < n → slice_index l.users.items k ≡ needed W l.waiting.items k)
    × (l.all.items ++ choices W (n - l._turn) l.waiting.items ≡ all_choices (arguments l.args) l.targets)
