-- What is charged for the cells of variables.
use Rattle.std.specs.Prelude.{ℕ, zero, suc, Bool, true, false, List, [], ◌∷◌}
use Rattle.sch_word.specs.runs.Charges.{cell_bytes}

-- n cells
abbrev pub cells_bytes : ℕ → List ℕ
cells_bytes zero = []
cells_bytes (suc n) = cell_bytes ∷ cells_bytes n

-- one cell more where a variable is assigned
abbrev pub where_assigned : Bool → List ℕ → List ℕ
where_assigned true charges = cell_bytes ∷ charges
where_assigned false charges = charges
