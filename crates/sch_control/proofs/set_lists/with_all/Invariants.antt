use Rattle.std.proofs.Common.{◌≡◌, ◌*◌, ℕ, drop, true}
use Rattle.std.specs.Prelude.{◌||◌, nat_lt}
use Rattle.std.specs.List.{list_all}
use Rattle.std.specs.FinSet as set
use Rattle.sch_word.specs.trees.NumberSets.{has}
use Rattle.sch_control.proofs.set_lists.with_all.Given as goal

abbrev pub invariant-loop-x : goal.invariant-loop-x
invariant-loop-x g l =
    record {
      found : (y : ℕ) → (has y (drop l.x-index l.xs) || set.contains l.all y) ≡ (has y l.xs || set.contains l.s y);
      below : list_all (λ x. nat_lt x (64 * g.row.N)) (drop l.x-index l.xs) ≡ true;
    }
