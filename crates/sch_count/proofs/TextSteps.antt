-- The lines of bodies, behind the last one.
use Rattle.std.proofs.Common.{◌≡◌, ◌≤◌, ℕ, List, [], ◌∷◌, ◌++◌, length, drop, refl, ap, sym, ◌∙◌, min, arith}
use Rattle.std.proofs.lemmas.List.{append-nil, length-drop}
use Rattle.sch_count.specs.declared.row.Row.{Row}
use Rattle.sch_count.specs.CountsText.{rows_text}

-- lists of which one is empty
ends : (names : List (List ℕ)) (rows : List Row) → min (length names) (length rows) ≤ 0 → rows_text names rows ≡ []
ends [] rows p = refl
ends (name ∷ names) [] p = refl
ends (name ∷ names) (row ∷ rows) p = absurd (omega (arith, p))

-- behind the last body that both lists have
pub no_more : (names : List (List ℕ)) (rows : List Row) (i : ℕ) (out whole : List ℕ) → min (length names) (length rows) ≤ i
    → out ++ rows_text (drop i names) (drop i rows) ≡ whole → out ≡ whole
no_more names rows i out whole p h =
    let none = ends (drop i names) (drop i rows) (omega (arith, p, length-drop i names, length-drop i rows)) in
    sym (ap (λ text. out ++ text) none ∙ append-nil out) ∙ h
