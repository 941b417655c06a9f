-- The order table that is listed for a program: at the site of each call what is bound, in its order, and then the other parts in
-- the order in which they are moved; and at each other site what is given there.
use Rattle.std.specs.Prelude.{ℕ, Bool, ◌&&◌, List, [], ◌∷◌, ◌++◌, length, slice_get, slice_set}
use Rattle.std.specs.List.{list_all}
use Rattle.sch_word.specs.runs.Orders.{is_permutation, order_at}
use Rattle.sch_word.specs.trees.Shape.{is_width}
use Rattle.sch_control.specs.OrderTable.{given_table, others}
use Rattle.sch_control.specs.Tree.{Source}
use Rattle.sch_orders.specs.declared.listed_call.ListedCall.{ListedCall}

-- what is bound, and then the others of a call's parts as they are moved
abbrev pub evaluated : (bound moved : List ℕ) → List ℕ
evaluated bound moved = bound ++ others bound moved

module _ (bound : List (List ℕ)) where
  -- a table with the order of a call at its site
  abbrev pub with_call : List (List ℕ) → ListedCall → List (List ℕ)
  with_call table c = slice_set table c.site (evaluated (order_at bound c.site) c.order)

  -- and with those of some calls, one after the other
  abbrev pub with_calls : List (List ℕ) → List ListedCall → List (List ℕ)
  with_calls table [] = table
  with_calls table (c ∷ cs) = with_calls (with_call table c) cs

abbrev pub listed_table : Source → List ListedCall → List (List ℕ)
listed_table p calls = with_calls p.bound (given_table p) calls

-- a call at a site, each of whose parts is moved first once
abbrev pub call_fits : (sites : List ℕ) → ListedCall → Bool
call_fits sites c = is_width (slice_get sites c.site) (length c.order) && is_permutation (length c.order) c.order

abbrev pub calls_fit : Source → List ListedCall → Bool
calls_fit p calls = list_all (call_fits p.sites) calls
