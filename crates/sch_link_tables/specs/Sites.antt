-- How many parts each site of a draft has, in the order of the sites: the outer before the inner, and an
-- operator before its operands.
use Rattle.std.specs.Prelude.{ℕ, suc, Bool, true, false, List, [], ◌∷◌, ◌++◌}
use Rattle.sch_sketch.specs.Draft.{Draft, Drafts, bind, letrec, call, operation, count}
use Rattle.sch_sketch.specs.DraftMeasures.{over, over_each}
use Rattle.sch_link_tables.specs.Assigned.{is_group}

-- a group of procedures is no site
abbrev pub unless_group : Bool → ℕ → List ℕ
unless_group true n = []
unless_group false n = n ∷ []

-- how many parts the site of a node has, if it has one
abbrev pub width_here : Draft → List ℕ
width_here (bind vs es e) = count es ∷ []
width_here (letrec vs p es e) = unless_group (is_group p es e) (count es)
width_here (call vs f es) = suc (count es) ∷ []
width_here (operation p es) = count es ∷ []
width_here _ = []

abbrev pub widths : Draft → List ℕ
widths = over [] (λ a b. a ++ b) width_here

abbrev pub widths_of_each : Drafts → List ℕ
widths_of_each = over_each [] (λ a b. a ++ b) width_here
