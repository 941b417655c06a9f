-- Which order tables fit a program.
use Rattle.std.specs.Prelude.{ℕ, Bool, true, false, ◌&&◌, nat_eq, List, [], ◌∷◌}
use Rattle.sch_word.specs.runs.Orders.{is_permutation}
use Rattle.sch_control.specs.Tree.{Source}

abbrev pub begins_with : List ℕ → List ℕ → Bool
begins_with [] order = true
begins_with (x ∷ xs) (y ∷ order) = nat_eq x y && begins_with xs order
begins_with (x ∷ xs) [] = false

-- One order for each site, in which the parts that are bound come first, in the order in which they are
-- bound. The others, which are simple, follow in any order (R5RS 4.1.3 leaves all of this open).
abbrev pub fits : (sites : List ℕ) → (bound table : List (List ℕ)) → Bool
fits [] [] [] = true
fits (width ∷ sites) (parts ∷ bound) (order ∷ table) = is_permutation width order && (begins_with parts order && fits sites bound table)
fits _ _ _ = false

abbrev pub table_fits : Source → List (List ℕ) → Bool
table_fits p table = fits p.sites p.bound table
