-- One step more, and the turns of the loop that makes new cells.
use Rattle.std.proofs.Common.{◌≡◌, ℕ, suc, ◌+◌, ◌<◌, List, [], ◌∷◌, ◌++◌, length, map, drop, get_or, refl, ap, ◌∙◌, arith, add-one}
use Rattle.std.specs.Prelude.{Some}
use Rattle.sch_word.proofs.Walking.{next_left, onto_more}
use Rattle.sch_flat.specs.declared.tree.NewCell as flat_cell
use Rattle.sch_flat.specs.View.{new_cell}
use Rattle.sch_control.specs.Tree as to
use Rattle.sch_control.specs.Tree.{Expression}
use Rattle.sch_control.specs.View.{expression}
use Rattle.sch_anf.specs.declared.steps.Step.{Step}
use Rattle.sch_anf_laws.specs.Normal.{Scope, with_new_cells, cell_operation}
use Rattle.sch_anf.specs.Steps.{after, before, Adds}

-- ## Steps

-- one step more
pub adds_one : (old new : List Step) (s : Step) (round : Expression → Expression) → new ≡ old ++ s ∷ [] → ((body : Expression) → before s body ≡ round body) → Adds old new round
adds_one old new s round e h body = ap (λ steps. after steps body) e ∙ onto_more before old s body ∙ ap (after old) (h body)

-- ## Cells

-- new cells, one after another
module _ (scope : Scope) (items : List flat_cell.NewCell) (i : ℕ) (c : flat_cell.NewCell) (l : i < length items) (is : c ≡ get_or items i c) where
  pub cells_turn : (at at' : ℕ) (steps steps' : List Step) (s : Step) (whole : Expression → Expression) → at' ≡ at + 1 → s.variable ≡ Some at
      → expression s.value.value ≡ to.perform (cell_operation scope (new_cell c).content) → steps' ≡ steps ++ s ∷ []
      → ((body : Expression) → after steps (with_new_cells scope (map new_cell (drop i items)) at body) ≡ whole body) → (body : Expression)
      → after steps' (with_new_cells scope (map new_cell (drop (i + 1) items)) at' body) ≡ whole body
  cells_turn at at' steps steps' s whole n v p h k body =
      let k' = next_left items i (λ r. after steps (with_new_cells scope (map new_cell r) at body) ≡ whole body) c l is (k body) in
      let n' : at' ≡ suc at = omega (arith, n) in
      rw (h, n', add-one) (onto_more before steps s (with_new_cells scope (map new_cell (drop (suc i) items)) (suc at) body)
      ∙ ap (after steps) (rw (v, p) refl) ∙ k')
