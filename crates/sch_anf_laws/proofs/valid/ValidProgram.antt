-- The program that normalizing makes is valid.
use Rattle.std.proofs.Common.{◌≡◌, ℕ, zero, suc, ◌+◌, ◌-◌, ◌≤◌, Bool, true, false, cond, List, [], ◌∷◌, ◌++◌, length, map, take, drop, Option, Some, None, refl, sym, ap, ◌∙◌, subst, arith, append_assoc}
use Rattle.std.specs.Prelude.{slice_get, nat_eq, nat_le, nat_lt, not, ◌&&◌, ◌||◌}
use Rattle.std.specs.List.{list_all, sum_by, count_by, AllByRecursion}
use Rattle.std.proofs.lemmas.Bool.{eq-eqb, eqb-true, lt-ltb}
use Rattle.std.proofs.lemmas.List.{length-map}
use Rattle.std.proofs.lemmas.List.Sums.{sum_by-append, sum_by-cons}
use Rattle.sch_word.specs.trees.NumberSets.{has, without_repeats}
use Rattle.sch_word.specs.trees.Bindings.{Bindings, bound_to, numbers}
use Rattle.sch_word.specs.runs.Orders.{order_or_none}
use Rattle.sch_word.specs.runs.Runs.{statics_valid, statics_in_range}
use Rattle.sch_word.specs.trees.Shape as shapes
use Rattle.sch_word.specs.trees.Shape.{names_known, constant_in_range, well_formed, fits, is_width, max_operands, max_variables, max_free_variables}
use Rattle.sch_word.proofs.facts.Booleans.{and_left, and_right, and_of}
use Rattle.sch_word.proofs.facts.Lists.{each_at}
use Rattle.sch_flat.specs.Tree.{Tree, Trees, Body, Source, constant, literal, variable, global, set_global, define, branch, sequence, bind, make_closure, fix_closures, call, operation, new_cells, cell_get, cell_set, no_trees, and_tree, count}
use Rattle.sch_flat.specs.Measures.{over, over_each, over_bodies, over_source, sites_of, variables}
use Rattle.sch_flat.specs.Valid.{has_fields, body_scoped, scoped, scoped_each, is_closed, is_formed, in_order, sited, ascending, body_fits, forms_fit, statics_known, constants_in_range}
use Rattle.sch_control.specs.declared.body.Entry.{Entry}
use Rattle.sch_control.specs.Tree.{Code}
use Rattle.sch_control.specs.BoundParts as control_parts
use Rattle.sch_control.specs.BoundParts.{parts_in_turn}
use Rattle.sch_control.specs.Valid as to
use Rattle.sch_control.specs.Valid.{Names, entries_of, names_of, sites_of_each, enters, without_fields, code_known}
use Rattle.sch_control.proofs.NumberLists.{below_from}
use Rattle.sch_word.proofs.facts.NumberSets.{distinct_numbers}
use Rattle.sch_anf_laws.specs.Normal as normal
use Rattle.sch_anf_laws.specs.Normal.{is_simple, new_label, procedure_code, form_code, normal_bodies, normal_source, bound_places, operator_place, bound_rows, bound_rows_each, bound_rows_bodies, bound_rows_source}
use Rattle.sch_anf_laws.proofs.runs.Fine.{bound_below}
use Rattle.sch_anf_laws.proofs.runs.Bodies.{stands_at}
use Rattle.sch_anf_laws.proofs.runs.Ready as ready
use Rattle.sch_anf_laws.proofs.runs.Ready.{every_left, every_right}
use Rattle.sch_anf_laws.proofs.runs.Sites.{keyed_times, rows_listed, width_within, counted, widths}
use Rattle.sch_anf_laws.proofs.valid.Parts.{node_good, joint_source, entry_for}
use Rattle.sch_anf_laws.proofs.valid.PartsInTurn.{Listed, normal_turns, procedures_turn}
use Rattle.sch_anf_laws.proofs.valid.SitesKept.{kept, fewer, fewer_each, calls_in, calls_in_each}
use Rattle.sch_anf_laws.proofs.valid.ValidBodies.{Sound, procedure_sound, form_sound}

-- ## Lists

every_append : {A : Type 0} (P : A → Type 0) (xs ys : List A) → AllByRecursion P xs → AllByRecursion P ys → AllByRecursion P (xs ++ ys)
every_append P [] ys h k = k
every_append P (x ∷ xs) ys h k = (h.0, every_append P xs ys h.1 k)

all_of : {A : Type 0} (f : A → Bool) (xs : List A) → AllByRecursion (λ x. f x ≡ true) xs → list_all f xs ≡ true
all_of f [] h = refl
all_of f (x ∷ xs) h = and_of (f x) (list_all f xs) h.0 (all_of f xs h.1)

every_take : {A : Type 0} (P : A → Type 0) (xs : List A) (d : ℕ) → AllByRecursion P xs → AllByRecursion P (take d xs)
every_take P xs zero h = tt
every_take P [] (suc d) h = tt
every_take P (x ∷ xs) (suc d) h = (h.0, every_take P xs d h.1)

every_drop : {A : Type 0} (P : A → Type 0) (xs : List A) (d : ℕ) → AllByRecursion P xs → AllByRecursion P (drop d xs)
every_drop P xs zero h = h
every_drop P [] (suc d) h = tt
every_drop P (x ∷ xs) (suc d) h = every_drop P xs d h.1

every_map : {A B : Type 0} (P : B → Type 0) (g : A → B) (xs : List A) → AllByRecursion (λ x. P (g x)) xs → AllByRecursion P (map g xs)
every_map P g [] h = tt
every_map P g (x ∷ xs) h = (h.0, every_map P g xs h.1)

abbrev EveryTree : (Tree → Type 0) → Trees → Type 0
EveryTree P no_trees = Unit {0}
EveryTree P (and_tree e es) = P e × EveryTree P es

every_code : (starts : List ℕ) (P : Code → Type 0) (forms : Trees) (places : List ℕ) (bodies : List Body) (before : ℕ) → AllByRecursion (λ b. P (procedure_code starts b)) bodies
    → EveryTree (λ e. P (form_code starts e)) forms → AllByRecursion P (normal_bodies starts before bodies forms places)
every_code starts P no_trees places bodies before h k = every_map P (procedure_code starts) bodies h
every_code starts P (and_tree e es) [] bodies before h k = (k.0, every_code starts P es [] bodies before h k.1)
every_code starts P (and_tree e es) (p ∷ places) bodies before h k =
    every_append P (map (procedure_code starts) (take (p - before) bodies)) (form_code starts e ∷ normal_bodies starts p (drop (p - before) bodies) es places)
    (every_map P (procedure_code starts) (take (p - before) bodies) (every_take (λ b. P (procedure_code starts b)) bodies (p - before) h))
    (k.0, every_code starts P es places (drop (p - before) bodies) p (every_drop (λ b. P (procedure_code starts b)) bodies (p - before) h) k.1)

entry_found : (cs : List Code) (i : ℕ) (x : Code) → slice_get cs i ≡ Some x → slice_get (entries_of cs) i ≡ Some x.entry
entry_found [] i x e = absurd (cc)
entry_found (y ∷ cs) zero x e = let m : y ≡ x = cc in ap (λ (z : Code). Some z.entry) m
entry_found (y ∷ cs) (suc i) x e = entry_found cs i x e

-- ## Sites of all bodies

module _ (starts : List ℕ) (f : ℕ × ℕ → ℕ) where
  abbrev pub rows_bodies : List Body → ℕ
  rows_bodies [] = 0
  rows_bodies (b ∷ bs) = sum_by f (calls_in b.code) + rows_bodies bs

  codes_append : (xs ys : List Code) → sum_by f (sites_of_each (xs ++ ys)) ≡ sum_by f (sites_of_each xs) + sum_by f (sites_of_each ys)
  codes_append [] ys = omega arith
  codes_append (x ∷ xs) ys =
      let h = codes_append xs ys in
      omega (arith, h, sum_by-append f (to.sites_of x.expression) (sites_of_each (xs ++ ys)), sum_by-append f (to.sites_of x.expression) (sites_of_each xs))

  procedures_kept : (bs : List Body) → sum_by f (sites_of_each (map (procedure_code starts) bs)) ≡ rows_bodies bs
  procedures_kept [] = refl
  procedures_kept (b ∷ bs) =
      let h = procedures_kept bs in
      let k = kept starts f true b.code _ _ in
      sum_by-append f (to.sites_of (procedure_code starts b).expression) (sites_of_each (map (procedure_code starts) bs))
      ∙ (ap (λ m. m + sum_by f (sites_of_each (map (procedure_code starts) bs))) k ∙ ap (λ m. sum_by f (calls_in b.code) + m) h)

  rows_split : (bs : List Body) (d : ℕ) → rows_bodies (take d bs) + rows_bodies (drop d bs) ≡ rows_bodies bs
  rows_split bs zero = omega arith
  rows_split [] (suc d) = omega arith
  rows_split (b ∷ bs) (suc d) = let h = rows_split bs d in omega (arith, h)

  pub all_kept : (forms : Trees) (places : List ℕ) (bodies : List Body) (before : ℕ)
      → sum_by f (sites_of_each (normal_bodies starts before bodies forms places)) ≡ rows_bodies bodies + sum_by f (calls_in_each forms)
  all_kept no_trees places bodies before = let h = procedures_kept bodies in omega (arith, h)
  all_kept (and_tree e es) [] bodies before =
      let h = all_kept es [] bodies before in
      let k = kept starts f false e [] 2 in
      omega (arith, h, k, sum_by-append f (to.sites_of (form_code starts e).expression) (sites_of_each (normal_bodies starts before bodies es [])), sum_by-append f (calls_in e) (calls_in_each es))
  all_kept (and_tree e es) (p ∷ places) bodies before =
      let h = all_kept es places (drop (p - before) bodies) p in
      let k = kept starts f false e [] 2 in
      let m = procedures_kept (take (p - before) bodies) in
      omega (
        arith,
        h,
        k,
        m,
        rows_split bodies (p - before),
        codes_append (map (procedure_code starts) (take (p - before) bodies)) (form_code starts e ∷ normal_bodies starts p (drop (p - before) bodies) es places),
        sum_by-append f (to.sites_of (form_code starts e).expression) (sites_of_each (normal_bodies starts p (drop (p - before) bodies) es places)),
        sum_by-append f (calls_in e) (calls_in_each es),
      )

  rows_fewer : (bs : List Body) → rows_bodies bs ≤ sum_by f (over_bodies [] (λ x y. x ++ y) shapes.site_of bs)
  rows_fewer [] = omega arith
  rows_fewer (b ∷ bs) =
      let h = rows_fewer bs in
      let k = fewer f b.code in
      omega (arith, h, k, sum_by-append f (over [] (λ x y. x ++ y) shapes.site_of b.code) (over_bodies [] (λ x y. x ++ y) shapes.site_of bs))

  -- the answer's sites are no more than the argument's
  no_more : (p : Source) (places : List ℕ) → sum_by f (sites_of_each (normal_bodies starts 0 p.bodies p.forms places)) ≤ sum_by f (sites_of p)
  no_more p places =
      let h = all_kept p.forms places p.bodies 0 in
      let k = rows_fewer p.bodies in
      let m = fewer_each f p.forms in
      omega (arith, h, k, m, sum_by-append f (over_bodies [] (λ x y. x ++ y) shapes.site_of p.bodies) (over_each [] (λ x y. x ++ y) shapes.site_of p.forms))

none_of : (f : ℕ × ℕ → ℕ) (xs : List (ℕ × ℕ)) → AllByRecursion (λ x. f x ≡ 0) xs → sum_by f xs ≡ 0
none_of f [] h = refl
none_of f (x ∷ xs) h = let k = none_of f xs h.1 in omega (arith, h.0, k, sum_by-cons f x xs)

each_none : (f : ℕ × ℕ → ℕ) (xs : List (ℕ × ℕ)) → sum_by f xs ≡ 0 → AllByRecursion (λ x. f x ≡ 0) xs
each_none f [] h = tt
each_none f (x ∷ xs) h = (omega (arith, h, sum_by-cons f x xs), each_none f xs (omega (arith, h, sum_by-cons f x xs)))

abbrev pub at_site : ℕ → ℕ × ℕ → ℕ
at_site k at = cond (nat_eq at.0 k) 1 0

each_there : (all before xs : List (ℕ × ℕ)) → all ≡ before ++ xs → AllByRecursion (λ x. 1 ≤ sum_by (at_site x.0) all) xs
each_there all before [] e = tt
each_there all before (x ∷ xs) e = (
  let o : at_site x.0 x ≡ 1 = rw (eq-eqb x.0 x.0 refl) refl in
      let whole : sum_by (at_site x.0) all ≡ sum_by (at_site x.0) before + sum_by (at_site x.0) (x ∷ xs) = ap (λ l. sum_by (at_site x.0) l) e ∙ sum_by-append (at_site x.0) before (x ∷ xs) in
      omega (arith, o, whole, sum_by-cons (at_site x.0) x xs),
  each_there all (before ++ x ∷ []) xs (e ∙ sym (append_assoc before (x ∷ []) xs)),
)

-- ## The parts that are bound

abbrev Good : ℕ → List ℕ → Type 0
Good width parts = (list_all (λ k. nat_lt k width) parts ≡ true) × (without_repeats parts ≡ true)

places_few : (es : Trees) (place width : ℕ) (last : List ℕ) → place + count es ≤ width → list_all (λ k. nat_lt k width) last ≡ true → list_all (λ k. nat_lt k width) (bound_places place es last) ≡ true
places_few no_trees place width last l h = h
places_few (and_tree e es) place width last l h = go (is_simple e) (places_few es (suc place) width last (omega (arith, l)) h)
  where
    go : (b : Bool) → list_all (λ k. nat_lt k width) (bound_places (suc place) es last) ≡ true
        → list_all (λ k. nat_lt k width) (cond b (bound_places (suc place) es last) (place ∷ bound_places (suc place) es last)) ≡ true
    go true k = k
    go false k = and_of (nat_lt place width) _ (lt-ltb place width (omega (arith, l))) k

places_once : (es : Trees) (place : ℕ) (last : List ℕ) → ((q : ℕ) → place ≤ q → has q last ≡ false) → without_repeats last ≡ true → without_repeats (bound_places place es last) ≡ true
places_once no_trees place last n h = h
places_once (and_tree e es) place last n h = go (is_simple e) (places_once es (suc place) last (λ q l. n q (omega (arith, l))) h)
  where
    go : (b : Bool) → without_repeats (bound_places (suc place) es last) ≡ true → without_repeats (cond b (bound_places (suc place) es last) (place ∷ bound_places (suc place) es last)) ≡ true
    go true k = k
    go false k = rw (bound_below place (suc place) es last (omega arith), n place (omega arith)) k

operator_good : (f : Tree) (width : ℕ) → 1 ≤ width → (list_all (λ k. nat_lt k width) (operator_place f) ≡ true) × (without_repeats (operator_place f) ≡ true)
    × ((q : ℕ) → 1 ≤ q → has q (operator_place f) ≡ false)
operator_good f width l = go (is_simple f)
  where
    go : (b : Bool) → (list_all (λ k. nat_lt k width) (cond b [] (0 ∷ [])) ≡ true) × (without_repeats (cond b [] (0 ∷ [])) ≡ true) × ((q : ℕ) → 1 ≤ q → has q (cond b [] (0 ∷ [])) ≡ false)
    go true = (refl, refl, λ q l. refl)
    go false = (and_of (nat_lt 0 width) true (lt-ltb 0 width (omega (arith, l))) refl, refl, λ q l. other (nat_eq q 0) refl l)
      where
        other : {q : ℕ} (b : Bool) → nat_eq q 0 ≡ b → 1 ≤ q → (b || false) ≡ false
        other {q} true e l = let m = eqb-true q 0 e in absurd (omega (arith, m, l))
        other false e l = refl

module _ (listed : List ℕ) where
  abbrev Width : ℕ × ℕ → Type 0
  Width at = is_width (slice_get listed at.0) at.1 ≡ true

  -- the parts that are bound at a site are among its parts, each once
  abbrev RowGood : ℕ × List ℕ → Type 0
  RowGood r = (w : ℕ) → slice_get listed r.0 ≡ Some w → Good w r.1

  row_good : (site width : ℕ) (parts : List ℕ) → is_width (slice_get listed site) width ≡ true → Good width parts → RowGood (site, parts)
  row_good site width parts h g w e = let k = (width_within listed site width h).0 in let m : w ≡ width = cc in subst (λ w. Good w parts) (sym m) g

  mutual
    rows_good : (e : Tree) → AllByRecursion Width (ready.all_sites e) → AllByRecursion RowGood (bound_rows e)
    rows_good (constant c) h = tt
    rows_good (literal k) h = tt
    rows_good (variable v) h = tt
    rows_good (global g) h = tt
    rows_good (set_global g e) h = rows_good e h
    rows_good (define g e) h = rows_good e h
    rows_good (branch x y z) h =
        let k = every_right Width (ready.all_sites x) (ready.all_sites y ++ ready.all_sites z) h in
        every_append RowGood (bound_rows x) (bound_rows y ++ bound_rows z) (rows_good x (every_left Width (ready.all_sites x) (ready.all_sites y ++ ready.all_sites z) h))
        (every_append RowGood (bound_rows y) (bound_rows z) (rows_good y (every_left Width (ready.all_sites y) (ready.all_sites z) k))
        (rows_good z (every_right Width (ready.all_sites y) (ready.all_sites z) k)))
    rows_good (sequence es) h = rows_good_each es h
    rows_good (bind site first es e) h = (
      row_good site (count es) (numbers 0 (count es)) h.0 (below_from 0 (count es) (count es) (omega arith), distinct_numbers 0 (count es)),
      every_append RowGood (bound_rows_each es) (bound_rows e) (rows_good_each es (every_left Width (ready.all_sites_each es) (ready.all_sites e) h.1))
          (rows_good e (every_right Width (ready.all_sites_each es) (ready.all_sites e) h.1)),
    )
    rows_good (make_closure m) h = tt
    rows_good (fix_closures first ms e) h = rows_good e h
    rows_good (call site spread f es) h =
        let o = operator_good f (suc (count es)) (omega arith) in (
          row_good site (suc (count es)) (bound_places 1 es (operator_place f)) h.0
              (places_few es 1 (suc (count es)) (operator_place f) (omega arith) o.0, places_once es 1 (operator_place f) o.2 o.1),
          every_append RowGood (bound_rows f) (bound_rows_each es) (rows_good f (every_left Width (ready.all_sites f) (ready.all_sites_each es) h.1))
              (rows_good_each es (every_right Width (ready.all_sites f) (ready.all_sites_each es) h.1)),
        )
    rows_good (operation site which es) h =
        (row_good site (count es) (bound_places 0 es []) h.0 (places_few es 0 (count es) [] (omega arith) refl, places_once es 0 [] (λ q l. refl) refl), rows_good_each es h.1)
    rows_good (new_cells cs e) h = rows_good e h
    rows_good (cell_get v) h = tt
    rows_good (cell_set v e) h = rows_good e h

    rows_good_each : (es : Trees) → AllByRecursion Width (ready.all_sites_each es) → AllByRecursion RowGood (bound_rows_each es)
    rows_good_each no_trees h = tt
    rows_good_each (and_tree e es) h =
        every_append RowGood (bound_rows e) (bound_rows_each es) (rows_good e (every_left Width (ready.all_sites e) (ready.all_sites_each es) h))
        (rows_good_each es (every_right Width (ready.all_sites e) (ready.all_sites_each es) h))

  rows_good_bodies : (bs : List Body) → AllByRecursion Width (over_bodies [] (λ x y. x ++ y) shapes.site_of bs) → AllByRecursion RowGood (bound_rows_bodies bs)
  rows_good_bodies [] h = tt
  rows_good_bodies (b ∷ bs) h =
      every_append RowGood (bound_rows b.code) (bound_rows_bodies bs) (rows_good b.code (every_left Width (ready.all_sites b.code) (over_bodies [] (λ x y. x ++ y) shapes.site_of bs) h))
      (rows_good_bodies bs (every_right Width (ready.all_sites b.code) (over_bodies [] (λ x y. x ++ y) shapes.site_of bs) h))

  looked_up : (rows : Bindings (List ℕ)) (site w : ℕ) → slice_get listed site ≡ Some w → AllByRecursion RowGood rows → Good w (order_or_none (bound_to site rows))
  looked_up [] site w e h = (refl, refl)
  looked_up (r ∷ rows) site w e h = go (nat_eq site r.0) refl (looked_up rows site w e h.1)
    where
      go : (b : Bool) → nat_eq site r.0 ≡ b → Good w (order_or_none (bound_to site rows)) → Good w (order_or_none (cond b (Some r.1) (bound_to site rows)))
      go true i g = let m : site ≡ r.0 = eqb-true site r.0 i in h.0 w (ap (λ k. slice_get listed k) (sym m) ∙ e)
      go false i g = g

each_bound : (sites : List ℕ) (i : ℕ) (g : ℕ → List ℕ) → ((j w : ℕ) → slice_get sites j ≡ Some w → Good w (g (i + j))) → to.bound_parts sites (map g (numbers i (length sites))) ≡ true
each_bound [] i g h = refl
each_bound (w ∷ sites) i g h =
    let here : Good w (g i) = subst (λ k. Good w (g k)) (omega arith) (h 0 w refl) in
    and_of (list_all (λ k. nat_lt k w) (g i)) _ here.0 (and_of (without_repeats (g i)) _ here.1 (each_bound sites (suc i) g (λ j v e. subst (λ k. Good v (g k)) (omega arith) (h (suc j) v e))))

-- ## The program

module _ (p : Source) (closed : is_closed p ≡ true) (formed : is_formed p ≡ true) (ascends : in_order p ≡ true) (once : sited p ≡ true) (ready' : statics_known p ≡ true)
    (words : constants_in_range p ≡ true) where
  abbrev codes : List Code
  codes = normal_bodies p.starts 0 p.bodies p.forms p.starts

  abbrev names : Names
  names = names_of (normal_source p)

  abbrev named : Bool
  named = over_source true (λ x y. x && y) (names_known names.symbols names.literals names.globals) p

  abbrev well : Bool
  well = over_source true (λ x y. x && y) well_formed p

  abbrev fitting : Bool
  fitting = over_source true (λ x y. x && y) (fits max_variables) p

  abbrev bodies_fit : Bool
  bodies_fit = list_all body_fits p.bodies

  few : bodies_fit ≡ true
  few = and_left bodies_fit (forms_fit p.forms) (and_right fitting (bodies_fit && forms_fit p.forms)
      (and_right well (fitting && (bodies_fit && forms_fit p.forms)) (and_right named (well && (fitting && (bodies_fit && forms_fit p.forms))) formed)))

  forms_few : forms_fit p.forms ≡ true
  forms_few = and_right bodies_fit (forms_fit p.forms) (and_right fitting (bodies_fit && forms_fit p.forms)
      (and_right well (fitting && (bodies_fit && forms_fit p.forms)) (and_right named (well && (fitting && (bodies_fit && forms_fit p.forms))) formed)))

  all_good : over_source true (λ x y. x && y) (node_good names) p ≡ true
  all_good =
      joint_source (λ s. names_known names.symbols names.literals names.globals s && constant_in_range s) (λ s. well_formed s && fits max_variables s) p
      (joint_source (names_known names.symbols names.literals names.globals) constant_in_range p (and_left named (well && (fitting && (bodies_fit && forms_fit p.forms))) formed)
      (and_left (over_source true (λ x y. x && y) constant_in_range p) (statics_in_range p.statics) words))
      (joint_source well_formed (fits max_variables) p (and_left well (fitting && (bodies_fit && forms_fit p.forms)) (and_right named (well && (fitting && (bodies_fit && forms_fit p.forms))) formed))
      (and_left fitting (bodies_fit && forms_fit p.forms) (and_right well (fitting && (bodies_fit && forms_fit p.forms))
      (and_right named (well && (fitting && (bodies_fit && forms_fit p.forms))) formed))))

  pub few_fields : (label : ℕ) (b : Body) → slice_get p.bodies label ≡ Some b → nat_le b.fields max_free_variables ≡ true
  few_fields label b e =
      let f = each_at body_fits p.bodies label b few e in
      and_left (nat_le b.fields max_free_variables) _ (and_right (nat_le b.formals max_operands) _ (and_right (not b.rest || nat_le 1 b.formals) _ f))

  stands : (label : ℕ) (b : Body) → slice_get p.bodies label ≡ Some b → slice_get codes (new_label p.starts label) ≡ Some (procedure_code p.starts b)
  stands label b e = stands_at p.starts p.forms p.bodies (eqb-true (length p.starts) (count p.forms)
      (and_left (nat_eq (length p.starts) (count p.forms)) (ascending 0 (length p.bodies) p.starts) ascends))
      (and_right (nat_eq (length p.starts) (count p.forms)) (ascending 0 (length p.bodies) p.starts) ascends) label b e

  pub entry_there : (label : ℕ) (b : Body) → slice_get p.bodies label ≡ Some b → slice_get names.entries (new_label p.starts label) ≡ Some (Some (entry_for b))
  entry_there label b e = entry_found codes (new_label p.starts label) (procedure_code p.starts b) (stands label b e)

  abbrev IsSound : Code → Type 0
  IsSound = Sound p.starts p.bodies names few_fields entry_there

  bodies_sound : (bs : List Body) → list_all (body_scoped p.bodies) bs ≡ true → over_bodies true (λ x y. x && y) (node_good names) bs ≡ true → list_all body_fits bs ≡ true
      → AllByRecursion (λ b. IsSound (procedure_code p.starts b)) bs
  bodies_sound [] s g f = tt
  bodies_sound (b ∷ bs) s g f = (
    procedure_sound p.starts p.bodies names few_fields entry_there b (and_left (body_scoped p.bodies b) (list_all (body_scoped p.bodies) bs) s)
        (and_left (over true (λ x y. x && y) (node_good names) b.code) (over_bodies true (λ x y. x && y) (node_good names) bs) g) (and_left (body_fits b) (list_all body_fits bs) f),
    bodies_sound bs (and_right (body_scoped p.bodies b) (list_all (body_scoped p.bodies) bs) s)
        (and_right (over true (λ x y. x && y) (node_good names) b.code) (over_bodies true (λ x y. x && y) (node_good names) bs) g) (and_right (body_fits b) (list_all body_fits bs) f),
  )

  forms_sound : (es : Trees) → scoped_each p.bodies es [] 0 ≡ true → over_each true (λ x y. x && y) (node_good names) es ≡ true → forms_fit es ≡ true
      → EveryTree (λ e. IsSound (form_code p.starts e)) es
  forms_sound no_trees s g f = tt
  forms_sound (and_tree e es) s g f = (
    form_sound p.starts p.bodies names few_fields entry_there e (and_left (scoped p.bodies e [] 0) (scoped_each p.bodies es [] 0) s)
        (and_left (over true (λ x y. x && y) (node_good names) e) (over_each true (λ x y. x && y) (node_good names) es) g) (and_left (nat_le (variables e) max_variables) (forms_fit es) f),
    forms_sound es (and_right (scoped p.bodies e [] 0) (scoped_each p.bodies es [] 0) s)
        (and_right (over true (λ x y. x && y) (node_good names) e) (over_each true (λ x y. x && y) (node_good names) es) g) (and_right (nat_le (variables e) max_variables) (forms_fit es) f),
  )

  abbrev forms_scoped : Bool
  forms_scoped = scoped_each p.bodies p.forms [] 0

  abbrev library_scoped : Bool
  library_scoped = list_all (λ label. has_fields (slice_get p.bodies label) 0) p.library

  pub all_sound : AllByRecursion IsSound codes
  all_sound =
      every_code p.starts IsSound p.forms p.starts p.bodies 0
      (bodies_sound p.bodies (and_left (list_all (body_scoped p.bodies) p.bodies) (forms_scoped && library_scoped) closed)
      (and_left (over_bodies true (λ x y. x && y) (node_good names) p.bodies) (over_each true (λ x y. x && y) (node_good names) p.forms) all_good) few)
      (forms_sound p.forms (and_left forms_scoped library_scoped (and_right (list_all (body_scoped p.bodies) p.bodies) (forms_scoped && library_scoped) closed))
      (and_right (over_bodies true (λ x y. x && y) (node_good names) p.bodies) (over_each true (λ x y. x && y) (node_good names) p.forms) all_good) forms_few)

  pub all_known : to.all_known (normal_source p) ≡ true
  all_known = all_of (code_known names) codes (go codes all_sound)
    where
      go : (cs : List Code) → AllByRecursion IsSound cs → AllByRecursion (λ c. code_known names c ≡ true) cs
      go [] h = tt
      go (c ∷ cs) h = (h.0.known, go cs h.1)

  -- ## Sites

  abbrev sites : List (ℕ × ℕ)
  sites = sites_of_each codes

  abbrev is_listed : ℕ × ℕ → Bool
  is_listed at = is_width (slice_get p.sites at.0) at.1

  abbrev one_wrong : ℕ × ℕ → ℕ
  one_wrong at = cond (is_listed at) 0 1

  site_widths : AllByRecursion (λ at. is_listed at ≡ true) sites
  site_widths = right sites (each_none one_wrong sites none)
    where
      listed : (xs : List (ℕ × ℕ)) → AllByRecursion (λ at. is_listed at ≡ true) xs → AllByRecursion (λ at. one_wrong at ≡ 0) xs
      listed [] h = tt
      listed (x ∷ xs) h = (rw h.0 refl, listed xs h.1)

      none : sum_by one_wrong sites ≡ 0
      none = let h = no_more p.starts one_wrong p p.starts in let k = none_of one_wrong (sites_of p) (listed (sites_of p) (widths p.sites (sites_of p) once)) in omega (arith, h, k)

      right : (xs : List (ℕ × ℕ)) → AllByRecursion (λ at. one_wrong at ≡ 0) xs → AllByRecursion (λ at. is_listed at ≡ true) xs
      right [] h = tt
      right (x ∷ xs) h = (go (is_listed x) h.0, right xs h.1)
        where
          go : (b : Bool) → cond {A = ℕ} b 0 1 ≡ 0 → b ≡ true
          go true e = refl
          go false e = absurd (omega (arith, e))

  site_counts : (xs : List (ℕ × ℕ)) → AllByRecursion (λ at. is_listed at ≡ true) xs → AllByRecursion (λ at. 1 ≤ sum_by (at_site at.0) sites) xs
      → AllByRecursion (λ at. (nat_eq (count_by (λ other. nat_eq other.0 at.0) sites) 1 && is_listed at) ≡ true) xs
  site_counts [] w h = tt
  site_counts (x ∷ xs) w h =
      let k = no_more p.starts (at_site x.0) p p.starts in
      let m = counted p.sites (sites_of p) once x.0 (width_within p.sites x.0 x.1 w.0).1 in
      let most : sum_by (at_site x.0) (sites_of p) ≡ 1 = keyed_times x.0 (sites_of p) ∙ m in (
        and_of (nat_eq (count_by (λ other. nat_eq other.0 x.0) sites) 1) (is_listed x) (eq-eqb (count_by (λ other. nat_eq other.0 x.0) sites) 1 (omega (arith, k, most, h.0))) w.0,
        site_counts xs w.1 h.1,
      )

  pub sites_once : to.sites_once (normal_source p) ≡ true
  sites_once = all_of (λ at. nat_eq (count_by (λ other. nat_eq other.0 at.0) sites) 1 && is_listed at) sites (site_counts sites site_widths (each_there sites [] sites refl))

  -- ## The rest

  pub bound_known : to.bound_known (normal_source p) ≡ true
  bound_known =
      each_bound p.sites 0 (λ site. order_or_none (bound_to site (bound_rows_source p)))
      (λ j w e. subst (λ k. Good w (order_or_none (bound_to k (bound_rows_source p)))) (omega arith) (looked_up p.sites (bound_rows_source p) j w e rows))
    where
      all : AllByRecursion (Width p.sites) (sites_of p)
      all = widths p.sites (sites_of p) once

      rows : AllByRecursion (RowGood p.sites) (bound_rows_source p)
      rows =
          every_append (RowGood p.sites) (bound_rows_bodies p.bodies) (bound_rows_each p.forms)
          (rows_good_bodies p.sites p.bodies (every_left (Width p.sites) (over_bodies [] (λ x y. x ++ y) shapes.site_of p.bodies) (ready.all_sites_each p.forms) all))
          (rows_good_each p.sites p.forms (every_right (Width p.sites) (over_bodies [] (λ x y. x ++ y) shapes.site_of p.bodies) (ready.all_sites_each p.forms) all))

  abbrev bound : List (List ℕ)
  bound = normal.bound_parts p

  pub parts_bound : control_parts.parts_bound (normal_source p) ≡ true
  parts_bound = all_of (λ c. parts_in_turn bound c.expression []) codes (every_code p.starts (λ c. parts_in_turn bound c.expression [] ≡ true) p.forms p.starts p.bodies 0
      (procedures_turn bound p.starts p.bodies (every_left (Listed bound) (bound_rows_bodies p.bodies) (bound_rows_each p.forms) rows))
      (forms p.forms (every_right (Listed bound) (bound_rows_bodies p.bodies) (bound_rows_each p.forms) rows)))
    where
      rows : AllByRecursion (Listed bound) (bound_rows_source p)
      rows = rows_listed p once

      forms : (es : Trees) → AllByRecursion (Listed bound) (bound_rows_each es) → EveryTree (λ e. parts_in_turn bound (form_code p.starts e).expression [] ≡ true) es
      forms no_trees h = tt
      forms (and_tree e es) h =
          (normal_turns bound p.starts false e [] 2 [] (every_left (Listed bound) (bound_rows e) (bound_rows_each es) h), forms es (every_right (Listed bound) (bound_rows e) (bound_rows_each es) h))

  pub library_known : to.library_known (normal_source p) ≡ true
  library_known = go p.library (and_right forms_scoped library_scoped (and_right (list_all (body_scoped p.bodies) p.bodies) (forms_scoped && library_scoped) closed))
    where
      there : (label : ℕ) (o : Option Body) → slice_get p.bodies label ≡ o → has_fields o 0 ≡ true → enters (slice_get names.entries (new_label p.starts label)) 0 ≡ true
      there label None e h = absurd (cc)
      there label (Some b) e h = subst (λ (o : Option (Option Entry)). enters o 0 ≡ true) (sym (entry_there label b e)) (eq-eqb b.fields 0 (sym (eqb-true 0 b.fields h)))

      go : (labels : List ℕ) → list_all (λ label. has_fields (slice_get p.bodies label) 0) labels ≡ true → without_fields names.entries (map (new_label p.starts) labels) ≡ true
      go [] h = refl
      go (l ∷ labels) h =
          and_of (enters (slice_get names.entries (new_label p.starts l)) 0) _
          (there l (slice_get p.bodies l) refl (and_left (has_fields (slice_get p.bodies l) 0) (list_all (λ label. has_fields (slice_get p.bodies label) 0) labels) h))
          (go labels (and_right (has_fields (slice_get p.bodies l) 0) (list_all (λ label. has_fields (slice_get p.bodies label) 0) labels) h))

  pub statics_good : to.statics_known (normal_source p) ≡ true
  statics_good =
      and_of (statics_valid (length (map (new_label p.starts) p.library)) p.statics) (statics_in_range p.statics)
      (subst (λ n. statics_valid n p.statics ≡ true) (sym (length-map p.library (new_label p.starts))) ready')
      (and_right (over_source true (λ x y. x && y) constant_in_range p) (statics_in_range p.statics) words)

  pub valid : to.is_valid (normal_source p) ≡ true
  valid = rw (all_known, sites_once, bound_known, parts_bound, library_known, statics_good) refl

  pub bodies_valid : list_all to.code_valid codes ≡ true
  bodies_valid = all_of to.code_valid codes (go codes all_sound)
    where
      go : (cs : List Code) → AllByRecursion IsSound cs → AllByRecursion (λ c. to.code_valid c ≡ true) cs
      go [] h = tt
      go (c ∷ cs) h = (rw (h.0.scoped, h.0.numbered, h.0.ended, h.0.shaped, h.0.fields) refl, go cs h.1)
