-- The globals that drafts assign, in the order of the text.
use Rattle.std.specs.Prelude.{ℕ, List, [], ◌∷◌, ◌++◌}
use Rattle.sch_sketch.specs.Draft.{Draft, Drafts, set_global}
use Rattle.sch_sketch.specs.DraftMeasures.{over, over_each}

-- the global that a node assigns
abbrev pub assigned_here : Draft → List (List ℕ)
assigned_here (set_global x e) = x ∷ []
assigned_here _ = []

abbrev pub assigned_in : Draft → List (List ℕ)
assigned_in = over [] (λ a b. a ++ b) assigned_here

abbrev pub assigned_in_each : Drafts → List (List ℕ)
assigned_in_each = over_each [] (λ a b. a ++ b) assigned_here
