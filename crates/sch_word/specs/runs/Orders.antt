-- Order tables: in which order the parts of each site are evaluated (R5RS 4.1.3 and 4.2.2 leave it open).
use Rattle.std.specs.Prelude.{ℕ, Bool, true, false, ◌&&◌, nat_eq, List, [], ◌∷◌, length, Option, Some, None, slice_get}
use Rattle.std.specs.List.{list_all, count_by}
use Rattle.sch_word.specs.trees.Bindings.{numbers}

-- the order of the parts of each site
abbrev pub Orders : Type 0
Orders = ℕ → List ℕ

abbrev pub order_or_none : Option (List ℕ) → List ℕ
order_or_none (Some order) = order
order_or_none None = []

-- a table lists an order for each site; one that is not listed has none
abbrev pub order_at : List (List ℕ) → Orders
order_at table site = order_or_none (slice_get table site)

-- the numbers below the width, each once
abbrev pub is_permutation : (width : ℕ) → List ℕ → Bool
is_permutation width order =
    nat_eq (length order) width && list_all (λ k. nat_eq (count_by (λ x. nat_eq x k) order) 1) (numbers 0 width)

-- one permutation for each site, whose widths these are
abbrev pub is_order_table : (sites : List ℕ) → List (List ℕ) → Bool
is_order_table [] [] = true
is_order_table (width ∷ sites) (order ∷ table) = is_permutation width order && is_order_table sites table
is_order_table _ _ = false

-- every site from left to right, as the text has its operands
abbrev pub in_text_order : (sites : List ℕ) → List (List ℕ)
in_text_order [] = []
in_text_order (width ∷ sites) = numbers 0 width ∷ in_text_order sites
