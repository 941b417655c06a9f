-- The order table that is listed fits.
use Rattle.std.proofs.Common.{◌≡◌, ℕ, zero, suc, ◌<◌, Bool, true, List, [], ◌∷◌, length, get_or, Option, Some, None, refl, sym, ap, ◌∙◌, subst, arith}
use Rattle.std.specs.Prelude.{◌&&◌, slice_get, slice_set}
use Rattle.std.specs.List.{list_all}
use Rattle.std.proofs.lemmas.Bool.{eqb-true}
use Rattle.sch_word.specs.runs.Orders.{is_permutation, order_at}
use Rattle.sch_word.specs.trees.Shape.{is_width}
use Rattle.sch_word.proofs.facts.Booleans.{and_of, and_parts}
use Rattle.sch_control.specs.Fits.{begins_with, fits, table_fits}
use Rattle.sch_control.specs.OrderTable.{given_order, given_orders, given_table}
use Rattle.sch_control.specs.Tree.{Source}
use Rattle.sch_control.specs.Valid.{bound_known}
use Rattle.sch_control.proofs.FittingTable.{given_table_fits, begins_itself}
use Rattle.sch_orders.specs.declared.listed_call.ListedCall.{ListedCall}
use Rattle.sch_orders.specs.ListedTable.{call_fits, calls_fit, evaluated, listed_table, with_call, with_calls}
use Rattle.sch_orders.proofs.EachOnce.{evaluated_once}

width_is : (o : Option ℕ) (width : ℕ) → is_width o width ≡ true → o ≡ Some width
width_is (Some listed) width h = ap Some (eqb-true listed width h)
width_is None width h = absurd (cc)

pub width_within : (sites : List ℕ) (site width : ℕ) → is_width (slice_get sites site) width ≡ true → site < length sites
width_within [] site width h = absurd (cc)
width_within (s ∷ sites) zero width h = omega arith
width_within (s ∷ sites) (suc site) width h = let l = width_within sites site width h in omega (arith, l)

-- ## At one site

parts_of : (width : ℕ) (parts order : List ℕ) (rest : Bool) → (is_permutation width order && (begins_with parts order && rest)) ≡ true
    → (is_permutation width order ≡ true) × (begins_with parts order ≡ true) × (rest ≡ true)
parts_of width parts order rest h =
    let p = and_parts (is_permutation width order) (begins_with parts order && rest) h in
    let q = and_parts (begins_with parts order) rest p.1 in (p.0, q.0, q.1)

given_at : (sites : List ℕ) (bound : List (List ℕ)) (site width : ℕ) → fits sites bound (given_orders sites bound) ≡ true → slice_get sites site ≡ Some width
    → is_permutation width (given_order width (order_at bound site)) ≡ true
given_at [] bound site width h is = absurd (cc)
given_at (w ∷ sites) [] site width h is = absurd (cc)
given_at (w ∷ sites) (parts ∷ bound) zero width h is =
    let e : w ≡ width = cc in
    subst (λ n. is_permutation n (given_order n parts) ≡ true) e (parts_of w parts (given_order w parts) (fits sites bound (given_orders sites bound)) h).0
given_at (w ∷ sites) (parts ∷ bound) (suc site) width h is =
    given_at sites bound site width (parts_of w parts (given_order w parts) (fits sites bound (given_orders sites bound)) h).2 is

put_fits : (sites : List ℕ) (bound table : List (List ℕ)) (site width : ℕ) (order : List ℕ) → fits sites bound table ≡ true → slice_get sites site ≡ Some width
    → is_permutation width order ≡ true → begins_with (order_at bound site) order ≡ true → fits sites bound (slice_set table site order) ≡ true
put_fits [] [] [] site width order h is p b = h
put_fits [] [] (o ∷ table) site width order h is p b = absurd (cc)
put_fits [] (parts ∷ bound) table site width order h is p b = absurd (cc)
put_fits (w ∷ sites) [] table site width order h is p b = absurd (cc)
put_fits (w ∷ sites) (parts ∷ bound) [] site width order h is p b = absurd (cc)
put_fits (w ∷ sites) (parts ∷ bound) (o ∷ table) zero width order h is p b =
    let e : w ≡ width = cc in
    and_of (is_permutation w order) (begins_with parts order && fits sites bound table) (subst (λ n. is_permutation n order ≡ true) (sym e) p)
    (and_of (begins_with parts order) (fits sites bound table) b (parts_of w parts o (fits sites bound table) h).2)
put_fits (w ∷ sites) (parts ∷ bound) (o ∷ table) (suc site) width order h is p b =
    let all = parts_of w parts o (fits sites bound table) h in
    and_of (is_permutation w o) (begins_with parts o && fits sites bound (slice_set table site order)) all.0
    (and_of (begins_with parts o) (fits sites bound (slice_set table site order)) all.1 (put_fits sites bound table site width order all.2 is p b))

-- ## With calls

module _ (sites : List ℕ) (bound : List (List ℕ)) (given : fits sites bound (given_orders sites bound) ≡ true) where
  pub call_put : (table : List (List ℕ)) (c : ListedCall) → fits sites bound table ≡ true → call_fits sites c ≡ true → fits sites bound (with_call bound table c) ≡ true
  call_put table c h f =
      let n : ℕ = length c.order in
      let p = and_parts (is_width (slice_get sites c.site) n) (is_permutation n c.order) f in
      let is = width_is (slice_get sites c.site) n p.0 in
      put_fits sites bound table c.site n (evaluated (order_at bound c.site) c.order) h is
      (evaluated_once n (order_at bound c.site) c.order (given_at sites bound c.site n given is) p.1) (begins_itself (order_at bound c.site) _)

  calls_put : (table : List (List ℕ)) (cs : List ListedCall) → fits sites bound table ≡ true → list_all (call_fits sites) cs ≡ true
      → fits sites bound (with_calls bound table cs) ≡ true
  calls_put table [] h f = h
  calls_put table (c ∷ cs) h f =
      let p = and_parts (call_fits sites c) (list_all (call_fits sites) cs) f in
      calls_put (with_call bound table c) cs (call_put table c h p.0) p.1

-- the table that is listed for a program by calls that fit it
pub listed_fits : (p : Source) (cs : List ListedCall) → bound_known p ≡ true → calls_fit p cs ≡ true → table_fits p (listed_table p cs) ≡ true
listed_fits p cs known f =
    let given = given_table_fits p known in calls_put p.sites p.bound given (given_table p) cs given f

-- as many orders as sites
pub fitting_length : (sites : List ℕ) (bound table : List (List ℕ)) → fits sites bound table ≡ true → (length bound ≡ length sites) × (length table ≡ length sites)
fitting_length [] [] [] h = (refl, refl)
fitting_length [] [] (o ∷ table) h = absurd (cc)
fitting_length [] (parts ∷ bound) table h = absurd (cc)
fitting_length (w ∷ sites) [] table h = absurd (cc)
fitting_length (w ∷ sites) (parts ∷ bound) [] h = absurd (cc)
fitting_length (w ∷ sites) (parts ∷ bound) (o ∷ table) h =
    let more = fitting_length sites bound table (parts_of w parts o (fits sites bound table) h).2 in (ap suc more.0, ap suc more.1)

-- one of some calls that fit a program stands at a site that has an order
pub call_at : (sites : List ℕ) (bound table : List (List ℕ)) (calls : List ListedCall) (i : ℕ) (c : ListedCall) → i < length calls → c ≡ get_or calls i c
    → list_all (call_fits sites) calls ≡ true → fits sites bound table ≡ true → (call_fits sites c ≡ true) × (c.site < length bound) × (c.site < length table)
call_at sites bound table calls i c l is h f =
    let here : call_fits sites c ≡ true = one calls i l is h in
    let within = width_within sites c.site (length c.order) (and_parts (is_width (slice_get sites c.site) (length c.order)) (is_permutation (length c.order) c.order) here).0 in
    let long = fitting_length sites bound table f in (here, omega (arith, within, long.0), omega (arith, within, long.1))
  where
    one : (cs : List ListedCall) (i : ℕ) → i < length cs → c ≡ get_or cs i c → list_all (call_fits sites) cs ≡ true → call_fits sites c ≡ true
    one [] i l is h = absurd (omega (arith, l))
    one (d ∷ cs) zero l is h = ap (call_fits sites) is ∙ (and_parts (call_fits sites d) (list_all (call_fits sites) cs) h).0
    one (d ∷ cs) (suc i) l is h = one cs i (omega (arith, l)) is (and_parts (call_fits sites d) (list_all (call_fits sites) cs) h).1
