-- Each site stands once, so that a fitting table has an order for it that begins with what is bound there.
use Rattle.std.proofs.Common.{◌≡◌, ℕ, zero, suc, ◌+◌, ◌<◌, Bool, true, false, List, [], ◌∷◌, ◌++◌, length, map, Option, Some, None, refl, sym, ap, ◌∙◌, subst, arith, append_assoc}
use Rattle.std.specs.Prelude.{slice_get, nat_eq, ◌&&◌, cond}
use Rattle.std.specs.List.{list_all, count_by, AllByRecursion}
use Rattle.std.proofs.lemmas.Bool.{eq-eqb, eqb-true}
use Rattle.std.proofs.lemmas.List.{map-append}
use Rattle.std.proofs.lemmas.List.Sums.{sum_by-cons}
use Rattle.std.proofs.lemmas.Option.{slice_get_within, slice_get-map}
use Rattle.sch_word.specs.trees.Bindings.{Bindings, bound_to, numbers}
use Rattle.sch_word.specs.runs.Computation.{numbers_from}
use Rattle.sch_word.specs.runs.Orders.{order_or_none, order_at, is_permutation}
use Rattle.sch_word.specs.trees.Shape as shapes
use Rattle.sch_word.specs.trees.Shape.{is_width, sites_once}
use Rattle.sch_word.proofs.facts.Booleans.{and_left, and_right, and_of}
use Rattle.sch_word.proofs.facts.Occurrences.{one, one_same, times, times_append, times_cons}
use Rattle.sch_flat.specs.Tree as flat
use Rattle.sch_flat.specs.Tree.{Tree, Trees, Body, Source, constant, literal, variable, global, set_global, define, branch, sequence, bind, make_closure, fix_closures, call, operation, new_cells, cell_get, cell_set, no_trees, and_tree}
use Rattle.sch_flat.specs.Measures.{over_bodies, sites_of}
use Rattle.sch_flat.specs.Valid.{sited}
use Rattle.sch_control.specs.Fits.{begins_with, fits}
use Rattle.sch_control.proofs.NumberRows.{each_number}
use Rattle.sch_anf_laws.specs.Normal.{bound_rows, bound_rows_each, bound_rows_bodies, bound_rows_source, bound_parts}
use Rattle.sch_anf_laws.proofs.runs.Fine.{FitsSite}
use Rattle.sch_anf_laws.proofs.runs.Ready.{every_of, all_sites, all_sites_each}

-- ## Keys

abbrev pub keys : {A : Type 0} → List (ℕ × A) → List ℕ
keys rows = map (λ r. r.0) rows

keys_append : {A : Type 0} (xs ys : List (ℕ × A)) → keys (xs ++ ys) ≡ keys xs ++ keys ys
keys_append xs ys = map-append (λ r. r.0) xs ys

joined : {A B : Type 0} (xs ys : List (ℕ × A)) (us vs : List (ℕ × B)) → keys xs ≡ keys us → keys ys ≡ keys vs → keys (xs ++ ys) ≡ keys (us ++ vs)
joined xs ys us vs e f = keys_append xs ys ∙ (ap (λ l. l ++ keys ys) e ∙ (ap (λ l. keys us ++ l) f ∙ sym (keys_append us vs)))

no_rows : (v : flat.Variable) → [] ≡ keys (all_sites (variable v))
no_rows (flat.bound x) = refl
no_rows (flat.free k) = refl

mutual
  rows_keys : (e : Tree) → keys (bound_rows e) ≡ keys (all_sites e)
  rows_keys (constant c) = refl
  rows_keys (literal k) = refl
  rows_keys (variable v) = no_rows v
  rows_keys (global g) = refl
  rows_keys (set_global g e) = rows_keys e
  rows_keys (define g e) = rows_keys e
  rows_keys (branch x y z) = joined (bound_rows x) (bound_rows y ++ bound_rows z) (all_sites x) (all_sites y ++ all_sites z) (rows_keys x)
      (joined (bound_rows y) (bound_rows z) (all_sites y) (all_sites z) (rows_keys y) (rows_keys z))
  rows_keys (sequence es) = rows_keys_each es
  rows_keys (bind site first es e) = ap (λ l. site ∷ l) (joined (bound_rows_each es) (bound_rows e) (all_sites_each es) (all_sites e) (rows_keys_each es) (rows_keys e))
  rows_keys (make_closure m) = refl
  rows_keys (fix_closures first ms e) = rows_keys e
  rows_keys (call site spread f es) = ap (λ l. site ∷ l) (joined (bound_rows f) (bound_rows_each es) (all_sites f) (all_sites_each es) (rows_keys f) (rows_keys_each es))
  rows_keys (operation site which es) = ap (λ l. site ∷ l) (rows_keys_each es)
  rows_keys (new_cells cs e) = rows_keys e
  rows_keys (cell_get v) = refl
  rows_keys (cell_set v e) = rows_keys e

  rows_keys_each : (es : Trees) → keys (bound_rows_each es) ≡ keys (all_sites_each es)
  rows_keys_each no_trees = refl
  rows_keys_each (and_tree e es) = joined (bound_rows e) (bound_rows_each es) (all_sites e) (all_sites_each es) (rows_keys e) (rows_keys_each es)

rows_keys_bodies : (bs : List Body) → keys (bound_rows_bodies bs) ≡ keys (over_bodies [] (λ x y. x ++ y) shapes.site_of bs)
rows_keys_bodies [] = refl
rows_keys_bodies (b ∷ bs) = joined (bound_rows b.code) (bound_rows_bodies bs) (all_sites b.code) (over_bodies [] (λ x y. x ++ y) shapes.site_of bs) (rows_keys b.code) (rows_keys_bodies bs)

rows_keys_source : (p : Source) → keys (bound_rows_source p) ≡ keys (sites_of p)
rows_keys_source p = joined (bound_rows_bodies p.bodies) (bound_rows_each p.forms) (over_bodies [] (λ x y. x ++ y) shapes.site_of p.bodies) (all_sites_each p.forms) (rows_keys_bodies p.bodies)
    (rows_keys_each p.forms)

-- ## Once

pub keyed_times : {A : Type 0} (k : ℕ) (rows : List (ℕ × A)) → count_by (λ r. nat_eq r.0 k) rows ≡ times k (keys rows)
keyed_times k [] = refl
keyed_times k (r ∷ rows) = sum_by-cons (λ r. one k r.0) r rows ∙ (ap (λ m. one k r.0 + m) (keyed_times k rows) ∙ sym (times_cons k r.0 (keys rows)))

from_numbers : {A : Type 0} (n : ℕ) (xs : List A) → numbers_from n xs ≡ numbers n (length xs)
from_numbers n [] = refl
from_numbers n (x ∷ xs) = ap (λ l. n ∷ l) (from_numbers (suc n) xs)

pub width_within : (listed : List ℕ) (site width : ℕ) → is_width (slice_get listed site) width ≡ true → (slice_get listed site ≡ Some width) × (site < length listed)
width_within listed site width h = go (slice_get listed site) refl h
  where
    go : (o : Option ℕ) → slice_get listed site ≡ o → is_width o width ≡ true → (slice_get listed site ≡ Some width) × (site < length listed)
    go None e h = absurd (cc)
    go (Some w) e h = (e ∙ ap Some (eqb-true w width h), slice_get_within listed site w e)

module _ (listed : List ℕ) (sites : List (ℕ × ℕ)) (h : sites_once listed sites ≡ true) where
  abbrev Width : ℕ × ℕ → Type 0
  Width at = is_width (slice_get listed at.0) at.1 ≡ true

  pub widths : AllByRecursion Width sites
  widths = every_of (λ at. is_width (slice_get listed at.0) at.1) sites
      (and_right (list_all (λ s. nat_eq (count_by (λ at. nat_eq at.0 s) sites) 1) (numbers_from 0 listed)) (list_all (λ at. is_width (slice_get listed at.0) at.1) sites) h)

  pub counted : (site : ℕ) → site < length listed → times site (keys sites) ≡ 1
  counted site l =
      let each = and_left (list_all (λ s. nat_eq (count_by (λ at. nat_eq at.0 s) sites) 1) (numbers_from 0 listed)) (list_all (λ at. is_width (slice_get listed at.0) at.1) sites) h in
      let each' : list_all (λ s. nat_eq (count_by (λ at. nat_eq at.0 s) sites) 1) (numbers 0 (length listed)) ≡ true =
      subst (λ l. list_all (λ s. nat_eq (count_by (λ at. nat_eq at.0 s) sites) 1) l ≡ true) (from_numbers 0 listed) each in
      sym (keyed_times site sites) ∙ eqb-true (count_by (λ at. nat_eq at.0 site) sites) 1
      (each_number (λ s. nat_eq (count_by (λ at. nat_eq at.0 s) sites) 1) 0 (length listed) site each' (omega arith) (omega (arith, l)))

  pub once : AllByRecursion (λ k. times k (keys sites) ≡ 1) (keys sites)
  once = go sites widths
    where
      go : (xs : List (ℕ × ℕ)) → AllByRecursion Width xs → AllByRecursion (λ k. times k (keys sites) ≡ 1) (keys xs)
      go [] w = tt
      go (x ∷ xs) w = (counted x.0 (width_within listed x.0 x.1 w.0).1, go xs w.1)

-- ## Rows are found

first_found : (before rows : Bindings (List ℕ)) (site : ℕ) (parts : List ℕ) → times site (keys before) ≡ 0 → bound_to site (before ++ (site, parts) ∷ rows) ≡ Some parts
first_found [] rows site parts e = rw (eq-eqb site site refl) refl
first_found (r ∷ before) rows site parts e = go (nat_eq site r.0) refl (first_found before rows site parts (omega (arith, e, times_cons site r.0 (keys before))))
  where
    go : (b : Bool) → nat_eq site r.0 ≡ b → bound_to site (before ++ (site, parts) ∷ rows) ≡ Some parts → cond b (Some r.1) (bound_to site (before ++ (site, parts) ∷ rows)) ≡ Some parts
    go true i f = let m : site ≡ r.0 = eqb-true site r.0 i in let o : one site r.0 ≡ 1 = rw (eq-eqb r.0 site (sym m)) refl in absurd (omega (arith, e, times_cons site r.0 (keys before), o))
    go false i f = f

each_found : (all before rows : Bindings (List ℕ)) → all ≡ before ++ rows → AllByRecursion (λ k. times k (keys all) ≡ 1) (keys rows) → AllByRecursion (λ r. bound_to r.0 all ≡ Some r.1) rows
each_found all before [] e h = tt
each_found all before (r ∷ rows) e h =
    (ap (λ l. bound_to r.0 l) e ∙ first_found before rows r.0 r.1 none, each_found all (before ++ r ∷ []) rows (e ∙ sym (append_assoc before (r ∷ []) rows)) h.1)
  where
    none : times r.0 (keys before) ≡ 0
    none =
        let total : times r.0 (keys all) ≡ times r.0 (keys before) + times r.0 (r.0 ∷ keys rows) =
        ap (λ l. times r.0 (keys l)) e ∙ (ap (λ l. times r.0 l) (keys_append before (r ∷ rows)) ∙ times_append r.0 (keys before) (r.0 ∷ keys rows)) in
        omega (arith, h.0, total, one_same r.0, times_cons r.0 r.0 (keys rows))

pub rows_found : (p : Source) → sited p ≡ true → AllByRecursion (λ r. bound_to r.0 (bound_rows_source p) ≡ Some r.1) (bound_rows_source p)
rows_found p h =
    each_found (bound_rows_source p) [] (bound_rows_source p) refl
    (subst (λ l. AllByRecursion (λ k. times k l ≡ 1) l) (sym (rows_keys_source p)) (once p.sites (sites_of p) h))

-- ## Fitting tables

fits_at : (sites : List ℕ) (bound table : List (List ℕ)) (site width : ℕ) (parts : List ℕ) → fits sites bound table ≡ true → slice_get sites site ≡ Some width → slice_get bound site ≡ Some parts
    → FitsSite width parts (order_at table site)
fits_at [] bound table site width parts h w b = absurd (cc)
fits_at (x ∷ sites) [] table site width parts h w b = absurd (cc)
fits_at (x ∷ sites) (y ∷ bound) [] site width parts h w b = absurd (cc)
fits_at (x ∷ sites) (y ∷ bound) (order ∷ table) zero width parts h w b =
    let m : x ≡ width = cc in
    let n : y ≡ parts = cc in
    subst (λ x. FitsSite x parts order) m (subst (λ y. FitsSite x y order) n
    (and_of (is_permutation x order) (begins_with y order) (and_left (is_permutation x order) (begins_with y order && fits sites bound table) h)
    (and_left (begins_with y order) (fits sites bound table) (and_right (is_permutation x order) (begins_with y order && fits sites bound table) h))))
fits_at (x ∷ sites) (y ∷ bound) (order ∷ table) (suc site) width parts h w b =
    fits_at sites bound table site width parts (and_right (begins_with y order) (fits sites bound table) (and_right (is_permutation x order) (begins_with y order && fits sites bound table) h)) w b

pub number_at : (x n k : ℕ) → k < n → slice_get (numbers x n) k ≡ Some (x + k)
number_at x zero k l = absurd (omega (arith, l))
number_at x (suc n) zero l = ap Some (omega arith)
number_at x (suc n) (suc k) l = number_at (suc x) n k (omega (arith, l)) ∙ ap Some (omega arith)

pub ordered_at : (p : Source) (table : List (List ℕ)) → fits p.sites (bound_parts p) table ≡ true → (site width : ℕ) (parts : List ℕ) → is_width (slice_get p.sites site) width ≡ true
    → bound_to site (bound_rows_source p) ≡ Some parts → FitsSite width parts (order_at table site)
ordered_at p table h site width parts w f =
    let found = width_within p.sites site width w in
    fits_at p.sites (bound_parts p) table site width parts h found.0
    (slice_get-map (λ site. order_or_none (bound_to site (bound_rows_source p))) (numbers 0 (length p.sites)) site
    ∙ (rw (number_at 0 (length p.sites) site found.1) (ap Some (ap order_or_none (ap (λ k. bound_to k (bound_rows_source p)) (omega arith) ∙ f)))))

-- ## What is listed

within : (listed : List ℕ) (xs : List (ℕ × ℕ)) → AllByRecursion (λ at. is_width (slice_get listed at.0) at.1 ≡ true) xs → AllByRecursion (λ k. k < length listed) (keys xs)
within listed [] h = tt
within listed (x ∷ xs) h = ((width_within listed x.0 x.1 h.0).1, within listed xs h.1)

-- each site is listed with what is bound there
pub rows_listed : (p : Source) → sited p ≡ true → AllByRecursion (λ r. order_at (bound_parts p) r.0 ≡ r.1) (bound_rows_source p)
rows_listed p h =
    go (bound_rows_source p) (rows_found p h)
    (subst (λ ks. AllByRecursion (λ k. k < length p.sites) ks) (sym (rows_keys_source p)) (within p.sites (sites_of p) (widths p.sites (sites_of p) h)))
  where
    listed : (site : ℕ) (parts : List ℕ) → site < length p.sites → bound_to site (bound_rows_source p) ≡ Some parts → slice_get (bound_parts p) site ≡ Some parts
    listed site parts l f =
        slice_get-map (λ site. order_or_none (bound_to site (bound_rows_source p))) (numbers 0 (length p.sites)) site
        ∙ (rw (number_at 0 (length p.sites) site l) (ap Some (ap order_or_none (ap (λ k. bound_to k (bound_rows_source p)) (omega arith) ∙ f))))

    go : (rows : Bindings (List ℕ)) → AllByRecursion (λ r. bound_to r.0 (bound_rows_source p) ≡ Some r.1) rows → AllByRecursion (λ k. k < length p.sites) (keys rows)
        → AllByRecursion (λ r. order_at (bound_parts p) r.0 ≡ r.1) rows
    go [] f w = tt
    go (r ∷ rows) f w = (ap order_or_none (listed r.0 r.1 w.0 f.0), go rows f.1 w.1)
