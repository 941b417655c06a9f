-- A list of no variables, without some of them.
use Rattle.std.proofs.Common.{◌≡◌, ℕ, zero, suc, List, [], ◌∷◌, refl, ap}
use Rattle.sch_word.specs.trees.Bindings.{remove, without}
use Rattle.sch_cells.specs.Variables.{without_each}

pub without_none : (x m : ℕ) → without x m [] ≡ []
without_none x zero = refl
without_none x (suc m) = ap (remove x) (without_none (suc x) m)

pub without_each_none : (ys : List ℕ) → without_each ys [] ≡ []
without_each_none [] = refl
without_each_none (y ∷ ys) = ap (remove y) (without_each_none ys)
