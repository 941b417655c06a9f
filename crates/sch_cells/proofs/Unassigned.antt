-- Variables that a tree does not assign: each counts once; and variables that all count alike.
use Rattle.std.proofs.Common.{◌≡◌, ℕ, zero, suc, Bool, true, false, length, refl, ap, arith}
use Rattle.sch_cells.specs.Bodies.{all_same, bound_count, unassigned}
use Rattle.sch_cells.specs.Tree.{Tree}
use Rattle.sch_cells.specs.Variables.{assigns}

pub bound_count_unassigned : (x m : ℕ) (e : Tree) → ((y : ℕ) → assigns e y ≡ false) → bound_count x m e ≡ m
bound_count_unassigned x zero e h = refl
bound_count_unassigned x (suc m) e h = let k = bound_count_unassigned (suc x) m e h in rw (h x) (omega (arith, k))

pub all_unassigned : (x m : ℕ) (e : Tree) → ((y : ℕ) → assigns e y ≡ false) → unassigned x m e ≡ all_same m true
all_unassigned x zero e h = refl
all_unassigned x (suc m) e h = rw (h x, all_unassigned (suc x) m e h) refl

pub all_same_length : (m : ℕ) (b : Bool) → length (all_same m b) ≡ m
all_same_length zero b = refl
all_same_length (suc m) b = ap suc (all_same_length m b)
