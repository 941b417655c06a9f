-- The text of counts.
use Rattle.std.specs.Prelude.{ℕ, List, [], ◌∷◌, ◌++◌, codes, cond, nat_eq}
use Rattle.std.specs.Fmt.{decimal}
use Rattle.sch_count.specs.declared.row.Row.{Row}

-- a line of a body's name and its numbers, in decimal: `fact 6 1 10 0`
abbrev pub row_line : (name : List ℕ) → Row → List ℕ
row_line name row =
    name ++ (codes " " ++ (decimal row.activations ++ (codes " " ++ (decimal row.leaves
    ++ (codes " " ++ (decimal row.saves ++ (codes " " ++ (decimal row.leaf_saves ++ codes "\n"))))))))

-- the line of a body, where it has an activation
abbrev pub body_text : (name : List ℕ) → Row → List ℕ
body_text name row = cond (nat_eq row.activations 0) [] (row_line name row)

-- the lines of bodies, in their order
abbrev pub rows_text : (names : List (List ℕ)) → List Row → List ℕ
rows_text (name ∷ names) (row ∷ rows) = body_text name row ++ rows_text names rows
rows_text _ _ = []

-- the lines of the bodies, and a last line of the status
abbrev pub counts_text : (names : List (List ℕ)) → List Row → (status : ℕ) → List ℕ
counts_text names rows status = rows_text names rows ++ (codes "status " ++ (decimal status ++ codes "\n"))
