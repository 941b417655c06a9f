use Rattle.std.proofs.Common.{◌≡◌, ℕ, ◌<◌, length, slice_index}
use Rattle.sch_word.specs.trees.Bindings.{numbers}
use Rattle.sch_shuffle.specs.View.{arguments}
use Rattle.sch_shuffle.specs.Greedy.{uses_target, needed}
use Rattle.sch_shuffle.proofs.choice.all_users.Given as goal

abbrev pub invariant-loop-k : goal.invariant-loop-k
invariant-loop-k l =
    (length l.all.items ≡ l.k)
    × ((i : ℕ) → i < l.k → slice_index l.all.items i ≡ needed (uses_target (arguments l.args) l.targets) (numbers 0 (length l.args)) i)
