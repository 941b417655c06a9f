use Rattle.std.proofs.Common.{◌≡◌, ℕ, ◌-◌, ◌<◌, ◌≤◌, cond, not, nat_eq, ◌&&◌, length, slice_index}
use Rattle.sch_shuffle.specs.View.{arguments}
use Rattle.sch_shuffle.specs.Greedy.{uses_target}
use Rattle.sch_shuffle.proofs.choice.release.Given as goal

abbrev pub invariant-loop-j : goal.invariant-loop-j
invariant-loop-j l =
    (length l.users.items ≡ length l.initial.users.items)
    × ((i : ℕ) → i < l.j → slice_index l.users.items i
    ≡ slice_index l.initial.users.items i - cond (not (nat_eq l.k i) && uses_target (arguments l.args) l.targets l.k i) 1 0)
    × ((i : ℕ) → l.j ≤ i → slice_index l.users.items i ≡ slice_index l.initial.users.items i)
