-- The flat program of a valid program without assignments is valid.
use Rattle.std.proofs.Common.{◌≡◌, ℕ, zero, suc, ◌+◌, ◌<◌, ◌≤◌, ◌^◌, ◌*◌, Bool, true, false, List, [], ◌∷◌, ◌++◌, length, map, Option, Some, None, refl, sym, ap, ◌∙◌, subst, arith, length-append, cond}
use Rattle.std.specs.Prelude.{IsTrue, nat_eq, nat_le, not, ◌||◌, ◌&&◌, slice_get}
use Rattle.std.specs.List.{list_all, count_by}
use Rattle.std.proofs.lemmas.List.Sums.{sum_by-append, sum_by-cons}
use Rattle.std.proofs.lemmas.Bool.{eq-eqb, leb-true, le-leb}
use Rattle.std.proofs.lemmas.List.{map-append}
use Rattle.sch_word.proofs.facts.Booleans.{and_of, and_parts}
use Rattle.sch_word.specs.trees.Bindings.{scope_with}
use Rattle.sch_word.specs.runs.Computation.{numbers_from}
use Rattle.sch_word.specs.values.Literals.{count_literals}
use Rattle.sch_word.specs.runs.Runs.{SameRuns}
use Rattle.sch_word.specs.trees.Shape as shapes
use Rattle.sch_word.specs.trees.Shape.{names_known, constant_in_range, well_formed, fits, procedures_fit, is_width, max_operands, max_levels, max_variables, max_free_variables}
use Rattle.sch_cells.specs.Tree.{Tree, Trees, Lambdas, Source, constant, literal, variable, global, set_variable, set_global, define, branch, sequence, bind, fix, letrec, lambda, call, operation, new_cells, cell_get, cell_set, no_trees, and_tree, no_lambdas, and_lambda, count}
use Rattle.sch_cells.specs.Bodies as bodies
use Rattle.sch_cells.specs.BoxedMeaning as from_meaning
use Rattle.sch_cells.specs.Measures as from
use Rattle.sch_cells.specs.Measures.{shape, every, levels_each, levels_lambdas}
use Rattle.sch_cells.specs.Valid as valid
use Rattle.sch_word.specs.trees.NumberSets.{without_repeats}
use Rattle.sch_cells.specs.Variables.{free, bound_each, bound_lambdas, below}
use Rattle.sch_cells.specs.Clear.{ClearEach, ClearLambdas}
use Rattle.sch_cells.proofs.Clearing.{program_clear}
use Rattle.sch_word.proofs.facts.NumberSets.{distinct_left, distinct_right}
use Rattle.sch_flat.specs.Tree as flat
use Rattle.sch_flat.specs.Measures as to
use Rattle.sch_flat.specs.Run as to_run
use Rattle.sch_flat.specs.Valid as to_valid
use Rattle.sch_flat.specs.Valid.{has_fields, body_scoped, body_fits, ascending}
use Rattle.sch_closure.specs.Closed.{place_from, procedures, procedures_each, procedures_lambdas, fields_of, captured, body_of, all_procedures, all_of_each, all_of_lambdas, closed_source, labels, starts, closed, closed_each}
use Rattle.sch_closure.specs.Fresh.{Fresh, FreshEach, FreshLambdas, StandLambdas}
use Rattle.sch_closure.proofs.Same.{none_within, runs_alike}
use Rattle.sch_closure.proofs.Scopes.{free_within, fresh_each, fresh_lambdas, BoxedEach, BoxedLambdas}
use Rattle.sch_closure.proofs.Sets.{without_scope}
use Rattle.sch_closure.proofs.kept.ScopedKept.{counts, list_both, forms_known, each_bodies_known, lambdas_bodies_known}
use Rattle.sch_closure.proofs.Standing.{stands_library, stands_forms, size_each, size_lambdas}
use Rattle.sch_closure.proofs.kept.FormedKept.{names_kept, words_kept, well_formed_kept, fits_kept, bodies_fit, forms_fit_kept}
use Rattle.sch_closure.proofs.kept.CountsKept.{same_alone}
use Rattle.sch_closure.proofs.kept.LevelsKept as levels_kept
use Rattle.sch_closure.proofs.kept.CoveredKept.{labels_length}

-- ## Sites

field_site : (fs : List ℕ) (k x : ℕ) → shapes.site_of (to.shape (flat.variable (place_from k fs x))) ≡ []
field_site [] k x = refl
field_site (y ∷ fs) k x = go (nat_eq x y) (field_site fs (suc k) x)
  where
    go : (b : Bool) → shapes.site_of (to.shape (flat.variable (place_from (suc k) fs x))) ≡ []
        → shapes.site_of (to.shape (flat.variable (cond b (flat.free k) (place_from (suc k) fs x)))) ≡ []
    go true h = refl
    go false h = h

site_node : (e : Tree) (fs : List ℕ) (n : ℕ) → Fresh e fs → shapes.site_of (shape e) ≡ shapes.site_of (to.shape (closed e fs n))
site_node (constant c) fs n f = refl
site_node (literal i) fs n f = refl
site_node (variable x) fs n f = sym (field_site fs 0 x)
site_node (global g) fs n f = refl
site_node (set_variable x e) fs n f = absurd f
site_node (set_global g e) fs n f = refl
site_node (define g e) fs n f = refl
site_node (branch a b c) fs n f = refl
site_node (sequence es) fs n f = refl
site_node (bind site x es e) fs n f = rw (counts es fs n) refl
site_node (fix x ls e) fs n f = refl
site_node (letrec site x es e) fs n f = absurd f
site_node (lambda name x m rest e) fs n f = refl
site_node (call site spread g es) fs n f = rw (counts es fs (n + procedures g)) refl
site_node (operation site which es) fs n f = rw (counts es fs n) refl
site_node (new_cells cs e) fs n f = refl
site_node (cell_get x) fs n f = refl
site_node (cell_set x e) fs n f = refl

pub sites_counted : (test : (ℕ × ℕ) → Bool) (p : Source) → FreshLambdas p.library → FreshEach p.forms [] → count_by test (to.sites_of (closed_source p)) ≡ count_by test (from.sites_of p)
sites_counted test p fl f =
    same_alone [] (λ a b. a ++ b) (count_by test) refl (λ a b. sum_by-append (λ x. cond (test x) 1 0) a b) (λ e. shapes.site_of (shape e)) shapes.site_of
    (λ e fs n f. ap (count_by test) (site_node e fs n f)) p fl f

none_fails : {A : Type 0} (t : A → Bool) (xs : List A) → IsTrue (list_all t xs) → count_by (λ x. not (t x)) xs ≡ 0
none_fails t [] h = refl
none_fails t (x ∷ xs) h =
    let r = and_parts (t x) (list_all t xs) h in
    rw (r.0) (omega (arith, none_fails t xs r.1))

all_hold : {A : Type 0} (t : A → Bool) (xs : List A) → count_by (λ x. not (t x)) xs ≡ 0 → IsTrue (list_all t xs)
all_hold t [] h = refl
all_hold t (x ∷ xs) h = go (t x) (λ k. all_hold t xs k) (sym (sum_by-cons (λ x. cond (not (t x)) 1 0) x xs) ∙ h)
  where
    go : (b : Bool) → (count_by (λ x. not (t x)) xs ≡ 0 → IsTrue (list_all t xs)) → cond (not b) 1 0 + count_by (λ x. not (t x)) xs ≡ 0 → IsTrue (b && list_all t xs)
    go true deeper k = deeper (omega (arith, k))
    go false deeper k = absurd (omega (arith, k))

alike : {A : Type 0} (p q : A → Bool) (xs : List A) → ((x : A) → q x ≡ p x) → IsTrue (list_all p xs) → IsTrue (list_all q xs)
alike p q [] e h = refl
alike p q (x ∷ xs) e h = let r = and_parts (p x) (list_all p xs) h in and_of _ _ (e x ∙ r.0) (alike p q xs e r.1)

-- ## Labels and starts

labels_known : (all : List flat.Body) (ls : Lambdas) (n : ℕ) → ClearLambdas ls [] → StandLambdas all ls n → IsTrue (list_all (λ label. has_fields (slice_get all label) 0) (labels ls n))
labels_known all no_lambdas n c t = refl
labels_known all (and_lambda name x m rest e ls) n c t =
    let none = none_within (fields_of x m e) (without_scope x m (free e) [] (free_within e (scope_with x m []) c.0.1)) in
    and_of _ _ (rw (t.0.0) (rw none refl)) (labels_known all ls (suc n + procedures e) c.1 t.1)

starts_length : (es : Trees) (n : ℕ) → length (starts es n) ≡ count es
starts_length no_trees n = refl
starts_length (and_tree e es) n = ap suc (starts_length es (n + procedures e))

starts_ascend : (es : Trees) (from n last : ℕ) → from ≤ n → n + procedures_each es ≤ last → IsTrue (ascending from last (starts es n))
starts_ascend no_trees from n last h k = le-leb from last (omega (arith, h, k))
starts_ascend (and_tree e es) from n last h k = and_of _ _ (le-leb from n h) (starts_ascend es n (n + procedures e) last (omega arith) (omega (arith, k)))

-- ## The fields of procedures are few

abbrev body_fields : flat.Body → ℕ
body_fields b = b.fields

joined : {A B C : Type 0} (g : A → C) (h : B → C) (xs ys : List A) (xs' ys' : List B) → map g xs ≡ map h xs' → map g ys ≡ map h ys' → map g (xs ++ ys) ≡ map h (xs' ++ ys')
joined g h xs ys xs' ys' p q = map-append g xs ys ∙ ap (λ l. l ++ map g ys) p ∙ ap (λ l. map h xs' ++ l) q ∙ sym (map-append h xs' ys')

mutual
  widths : (e : Tree) (n : ℕ) → map body_fields (all_procedures body_of e n) ≡ map length (all_procedures captured e n)
  widths (constant c) n = refl
  widths (literal i) n = refl
  widths (variable x) n = refl
  widths (global g) n = refl
  widths (set_variable x e) n = widths e n
  widths (set_global g e) n = widths e n
  widths (define g e) n = widths e n
  widths (branch a b c) n =
      joined body_fields length (all_procedures body_of a n) _ (all_procedures captured a n) _ (widths a n)
      (joined body_fields length (all_procedures body_of b (n + procedures a)) _ (all_procedures captured b (n + procedures a)) _ (widths b (n + procedures a))
      (widths c (n + procedures a + procedures b)))
  widths (sequence es) n = each_widths es n
  widths (bind site x es e) n = joined body_fields length (all_of_each body_of es n) _ (all_of_each captured es n) _ (each_widths es n) (widths e (n + procedures_each es))
  widths (letrec site x es e) n = joined body_fields length (all_of_each body_of es n) _ (all_of_each captured es n) _ (each_widths es n) (widths e (n + procedures_each es))
  widths (fix x ls e) n = joined body_fields length (all_of_lambdas body_of ls n) _ (all_of_lambdas captured ls n) _ (lambdas_widths ls n) (widths e (n + procedures_lambdas ls))
  widths (lambda name x m rest e) n = ap (λ l. length (fields_of x m e) ∷ l) (widths e (suc n))
  widths (call site spread g es) n = joined body_fields length (all_procedures body_of g n) _ (all_procedures captured g n) _ (widths g n) (each_widths es (n + procedures g))
  widths (operation site which es) n = each_widths es n
  widths (new_cells cs e) n = widths e n
  widths (cell_get x) n = refl
  widths (cell_set x e) n = widths e n

  each_widths : (es : Trees) (n : ℕ) → map body_fields (all_of_each body_of es n) ≡ map length (all_of_each captured es n)
  each_widths no_trees n = refl
  each_widths (and_tree e es) n = joined body_fields length (all_procedures body_of e n) _ (all_procedures captured e n) _ (widths e n) (each_widths es (n + procedures e))

  lambdas_widths : (ls : Lambdas) (n : ℕ) → map body_fields (all_of_lambdas body_of ls n) ≡ map length (all_of_lambdas captured ls n)
  lambdas_widths no_lambdas n = refl
  lambdas_widths (and_lambda name x m rest e ls) n =
      ap (λ l. length (fields_of x m e) ∷ l) (joined body_fields length (all_procedures body_of e (suc n)) _ (all_procedures captured e (suc n)) _ (widths e (suc n))
      (lambdas_widths ls (suc n + procedures e)))

few_fields : (bs : List flat.Body) → IsTrue (list_all body_fits bs) → IsTrue (list_all (λ k. nat_le k max_free_variables) (map body_fields bs))
few_fields [] h = refl
few_fields (b ∷ bs) h =
    let r = and_parts (body_fits b) (list_all body_fits bs) h in
    let q = and_parts (nat_le b.formals max_operands) _ (and_parts (not b.rest || nat_le 1 b.formals) _ r.0).1 in
    and_of _ _ (and_parts (nat_le b.fields max_free_variables) _ q.1).0 (few_fields bs r.1)

each_short : (all : List (List ℕ)) → IsTrue (list_all (λ k. nat_le k max_free_variables) (map length all)) → (k : ℕ) (xs : List ℕ) → slice_get all k ≡ Some xs → length xs < 2 ^ 32
each_short [] h k xs e = absurd (cc)
each_short (ys ∷ all) h zero xs e =
    let r = and_parts (nat_le (length ys) max_free_variables) _ h in
    let p : ys ≡ xs = ap (λ o. some_or o ys) e in
    let l : length xs ≤ max_free_variables = subst (λ zs. length zs ≤ max_free_variables) p (leb-true (length ys) max_free_variables r.0) in
    omega (arith, l)
  where
    some_or : Option (List ℕ) → List ℕ → List ℕ
    some_or None other = other
    some_or (Some zs) other = zs
each_short (ys ∷ all) h (suc k) xs e = each_short all (and_parts (nat_le (length ys) max_free_variables) _ h).1 k xs e

-- ## Programs

-- What is known of the argument.
pub record Given (p : Source) : Type 0 where
  pub scoped : IsTrue (valid.scoped p)
  pub formed : IsTrue (valid.formed true p)
  pub limited : IsTrue (valid.within_limits true p)

module _ (p : Source) (g : Given p) where
  pub clears : ClearLambdas p.library [] × ClearEach p.forms []
  clears = program_clear p g.scoped

  boxes : BoxedLambdas p.library × BoxedEach p.forms
  boxes =
      let q = (and_parts (every (λ e. valid.has_form true (shape e)) p) _
      (and_parts (every (λ e. valid.has_form true (shape e)) p && every
      (λ e. names_known (length p.statics.symbols) (count_literals p.statics.literals) (length p.statics.globals) (shape e)) p) _ g.formed).0).0 in
      and_parts (from.over_lambdas true (λ a b. a && b) (λ e. valid.has_form true (shape e)) p.library) _ q

  pub fresh_library : FreshLambdas p.library
  fresh_library = fresh_lambdas p.library [] clears.0 boxes.0

  pub fresh_forms : FreshEach p.forms []
  fresh_forms = fresh_each p.forms [] [] (λ x i. i) clears.1 boxes.1

  distincts : IsTrue (without_repeats (bound_lambdas p.library)) × IsTrue (without_repeats (bound_each p.forms))
  distincts =
      let d = (and_parts (without_repeats (valid.bound_of p)) _ (and_parts (without_repeats (valid.bound_of p) && below p.variables (valid.bound_of p)) _ g.scoped).0).0 in
      (distinct_left (bound_lambdas p.library) (bound_each p.forms) d, distinct_right (bound_lambdas p.library) (bound_each p.forms) d)

  pub same_runs : SameRuns (from_meaning.run p) (to_run.run (closed_source p))
  same_runs = runs_alike p clears.0 clears.1 boxes.0 boxes.1

  pub closed_kept : IsTrue (to_valid.is_closed (closed_source p))
  closed_kept =
      let all = (closed_source p).bodies in
      let tl = stands_library body_of p.library p.forms in
      let tf = stands_forms body_of p.library p.forms in
      and_of _ _ (list_both (body_scoped all) (all_of_lambdas body_of p.library 0) _ (lambdas_bodies_known all p.library [] 0 clears.0 fresh_library distincts.0 tl)
      (each_bodies_known all p.forms [] [] (procedures_lambdas p.library) clears.1 fresh_forms distincts.1 tf))
      (and_of _ _ (forms_known all p.forms (procedures_lambdas p.library) clears.1 fresh_forms distincts.1 tf) (labels_known all p.library 0 clears.0 tl))

  fitted : IsTrue (procedures_fit max_variables (bodies.procedures p.library)) × IsTrue (valid.forms_fit p.forms) × IsTrue (every (λ e. fits max_variables (shape e)) p)
  fitted =
      let q = and_parts (procedures_fit max_variables (bodies.procedures p.library) && valid.forms_fit p.forms) _
      (and_parts (nat_le (levels_lambdas p.library) (3 * max_levels) && nat_le (levels_each p.forms) (3 * max_levels)) _ g.limited).1 in
      let r = and_parts (procedures_fit max_variables (bodies.procedures p.library)) _ q.0 in
      (r.0, r.1, q.1)

  pub formed_kept : IsTrue (to_valid.is_formed (closed_source p))
  formed_kept =
      let h = and_parts (every (λ e. valid.has_form true (shape e)) p
      && every (λ e. names_known (length p.statics.symbols) (count_literals p.statics.literals) (length p.statics.globals) (shape e)) p) _ g.formed in
      let names = (and_parts (every (λ e. valid.has_form true (shape e)) p) _ h.0).1 in
      let shaped = (and_parts (every (λ e. well_formed (shape e)) p) _ h.1).0 in
      and_of _ _ (names_kept p fresh_library fresh_forms (length p.statics.symbols) (count_literals p.statics.literals) (length p.statics.globals) names)
      (and_of _ _ (well_formed_kept p fresh_library fresh_forms shaped)
      (and_of _ _ (fits_kept p fresh_library fresh_forms fitted.2)
      (and_of _ _ (bodies_fit p fresh_library fresh_forms fitted.0 fitted.2) (forms_fit_kept p fresh_library fresh_forms clears.1 fitted.1))))

  pub constants_kept : IsTrue (valid.constants_in_range p) → IsTrue (to_valid.constants_in_range (closed_source p))
  constants_kept h =
      let q = and_parts (every (λ e. constant_in_range (shape e)) p) _ h in
      and_of _ _ (words_kept p fresh_library fresh_forms q.0) q.1

  pub nested_kept : IsTrue (to_valid.within_levels (closed_source p))
  nested_kept =
      let limit = 3 * max_levels in
      let h = and_parts (nat_le (levels_lambdas p.library) limit) _ (and_parts (nat_le (levels_lambdas p.library) (3 * max_levels) && nat_le (levels_each p.forms) (3 * max_levels)) _ g.limited).0 in
      let l : levels_lambdas p.library ≤ limit = leb-true (levels_lambdas p.library) limit h.0 in
      let f : levels_each p.forms ≤ limit = leb-true (levels_each p.forms) limit h.1 in
      and_of _ _ (list_both (λ b. nat_le (to.levels b.code) limit) (all_of_lambdas body_of p.library 0) _ (levels_kept.lambdas_bodies limit p.library 0 l)
      (levels_kept.each_bodies limit p.forms (procedures_lambdas p.library) f))
      (le-leb (to.levels_each (closed_each p.forms [] (procedures_lambdas p.library))) limit (omega (arith, f, levels_kept.each_levels p.forms [] (procedures_lambdas p.library))))

  pub sited_kept : IsTrue (valid.sited p) → IsTrue (to_valid.sited (closed_source p))
  sited_kept h =
      let r = and_parts (list_all (λ s. nat_eq (count_by (λ at. nat_eq at.0 s) (from.sites_of p)) 1) (numbers_from 0 p.sites)) _ h in
      let wide : (ℕ × ℕ) → Bool = λ at. is_width (slice_get p.sites at.0) at.1 in
      and_of _ _
      (alike (λ s. nat_eq (count_by (λ at. nat_eq at.0 s) (from.sites_of p)) 1) (λ s. nat_eq (count_by (λ at. nat_eq at.0 s) (to.sites_of (closed_source p))) 1) (numbers_from 0 p.sites)
      (λ s. ap (λ k. nat_eq k 1) (sites_counted (λ at. nat_eq at.0 s) p fresh_library fresh_forms)) r.0)
      (all_hold wide (to.sites_of (closed_source p)) (sites_counted (λ at. not (wide at)) p fresh_library fresh_forms ∙ none_fails wide (from.sites_of p) r.1))

  pub short : (k : ℕ) (xs : List ℕ) → slice_get (all_of_lambdas captured p.library 0 ++ all_of_each captured p.forms (procedures_lambdas p.library)) k ≡ Some xs → length xs < 2 ^ 32
  short =
      let n = procedures_lambdas p.library in
      let w = joined body_fields length (all_of_lambdas body_of p.library 0) (all_of_each body_of p.forms n) (all_of_lambdas captured p.library 0) (all_of_each captured p.forms n)
      (lambdas_widths p.library 0) (each_widths p.forms n) in
      each_short (all_of_lambdas captured p.library 0 ++ all_of_each captured p.forms n)
      (subst (λ l. IsTrue (list_all (λ k. nat_le k max_free_variables) l)) w (few_fields (closed_source p).bodies (bodies_fit p fresh_library fresh_forms fitted.0 fitted.2)))

pub ordered_kept : (p : Source) → IsTrue (to_valid.in_order (closed_source p))
ordered_kept p =
    let n = procedures_lambdas p.library in
    let l : length (all_of_lambdas body_of p.library 0 ++ all_of_each body_of p.forms n) ≡ n + procedures_each p.forms =
    omega (arith, length-append (all_of_lambdas body_of p.library 0) (all_of_each body_of p.forms n), size_lambdas body_of p.library 0, size_each body_of p.forms n) in
    and_of _ _ (eq-eqb (length (starts p.forms n)) (flat.count (closed_each p.forms [] n)) (starts_length p.forms n ∙ sym (counts p.forms [] n)))
    (starts_ascend p.forms 0 n (length (all_of_lambdas body_of p.library 0 ++ all_of_each body_of p.forms n)) (omega arith) (omega (arith, l)))

pub ready_kept : (p : Source) → IsTrue (valid.statics_known p) → IsTrue (to_valid.statics_known (closed_source p))
ready_kept p h = rw (labels_length p.library 0) h
