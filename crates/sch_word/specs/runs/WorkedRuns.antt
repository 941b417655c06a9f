-- Runs, as the worked rows of the languages have them.
use Rattle.std.specs.Prelude.{ℕ, List, [], ◌∷◌}
use Rattle.sch_word.specs.runs.Runs.{Run, ended}

-- a run that ended, with what it took, of a kernel that gave no answer
abbrev pub ends : (output : List ℕ) → (status entries charged : ℕ) → Run
ends output status entries charged = record { output = output; entries = entries; charged = charged; answers = 0; end = ended status }

-- the first parts of a table of orders from left to right
abbrev pub plain_orders : List (List ℕ)
plain_orders = (0 ∷ (1 ∷ [])) ∷ ((0 ∷ (1 ∷ [])) ∷ ((0 ∷ (1 ∷ [])) ∷ ((0 ∷ (1 ∷ [])) ∷ ((0 ∷ (1 ∷ [])) ∷ ((0 ∷ (1 ∷ [])) ∷ ((0 ∷ []) ∷ ((0 ∷ (1 ∷ [])) ∷ [])))))))

-- those of a call inside others, whose operator is last
abbrev pub call_orders : List (List ℕ)
call_orders = (0 ∷ []) ∷ ((0 ∷ []) ∷ ((0 ∷ []) ∷ ((2 ∷ (1 ∷ (0 ∷ []))) ∷ [])))
