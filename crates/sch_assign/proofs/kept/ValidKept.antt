-- What is made of a valid program is valid.
use Rattle.std.proofs.Common.{◌≡◌, ℕ, zero, suc, ◌*◌, ◌≤◌, Bool, true, false, List, [], ◌∷◌, ◌++◌, length, refl, sym, ap, subst, arith}
use Rattle.std.specs.Prelude.{IsTrue, ◌&&◌, ◌||◌, not, nat_le}
use Rattle.std.proofs.lemmas.Bool.{le-leb, leb-true}
use Rattle.std.proofs.lemmas.List.{append-nil}
use Rattle.sch_word.specs.trees.Bindings.{scope_with}
use Rattle.sch_word.specs.values.Literals.{count_literals}
use Rattle.sch_word.specs.runs.Runs.{statics_in_range}
use Rattle.sch_word.specs.trees.Shape as shapes
use Rattle.sch_word.specs.trees.Shape.{Shape, Procedure, names_known, constant_in_range, well_formed, fits, procedure_fits, procedures_fit, sites_once, site_of, max_levels, max_variables, max_operands, max_free_variables}
use Rattle.sch_word.proofs.Shaped.{Implies, implies_joins, Holds, holds_joins, Equal, equal_joins}
use Rattle.sch_cells.specs.declared.tree.NewCell.{NewCell}
use Rattle.sch_cells.specs.Tree.{Tree, Trees, Lambdas, Source, constant, literal, variable, global, set_variable, set_global, define, branch, sequence, bind, fix, letrec, lambda, call, operation, new_cells, cell_get, cell_set, no_trees, and_tree, no_lambdas, and_lambda, count, count_lambdas}
use Rattle.sch_word.specs.trees.NumberSets.{without_repeats}
use Rattle.sch_cells.specs.Variables.{assigns, assigns_lambdas, closed_each, closed_lambdas, below}
use Rattle.sch_cells.specs.Bodies.{variables, procedure, procedures}
use Rattle.sch_cells.specs.Measures.{over, over_each, over_lambdas, shape, every, sites_of, levels_each, levels_lambdas}
use Rattle.sch_cells.specs.Valid.{has_form, none_assigned, fix_unassigned, scoped, formed, constants_in_range, within_limits, forms_fit, sited, statics_known, bound_of}
use Rattle.sch_assign.specs.Converted.{and_cell, cells_for, filling, reading, wrapped, converted, converted_each, converted_lambdas, converted_source, Right, RightEach, RightLambdas}
use Rattle.sch_assign.proofs.kept.FreeMoved.{AllLow, low_with, count_same, count_lambdas_same}
use Rattle.sch_assign.proofs.ConversionIsRight.{IsRight}
use Rattle.sch_assign.proofs.kept.NumbersKept.{numbers_distinct, numbers_below}
use Rattle.sch_assign.proofs.kept.ScopesKept.{program_closed}
use Rattle.sch_assign.proofs.kept.LevelsKept.{each_within, lambdas_within}
use Rattle.sch_assign.proofs.kept.BodiesKept as bodies
use Rattle.sch_assign.proofs.kept.BodiesKept.{procedure_kept, procedures_kept, form_variables, nothing_low}
use Rattle.sch_assign.proofs.Lookups.{empty_length}
use Rattle.sch_assign.proofs.kept.ShapesKept.{Becomes, same, read, set, bound, fewer, node_of, source_kept, shapes_kept}
use Rattle.sch_word.proofs.facts.Booleans.{and_true, neither, and_of, and_parts}

-- ## Joining of truths and lists

pub true_first : (b : Bool) → (true && b) ≡ b
true_first b = refl

-- ## Shapes

site_turn : (s t : Shape) → Becomes s t → Equal (site_of s) (site_of t)
site_turn s t same = refl
site_turn s t read = refl
site_turn s t set = refl
site_turn s t bound = refl
site_turn s t (fewer l) = refl

names_turn : (symbols literals globals : ℕ) (s t : Shape) → Becomes s t → Implies (names_known symbols literals globals s) (names_known symbols literals globals t)
names_turn a b c s t same h = h
names_turn a b c s t read h = refl
names_turn a b c s t set h = refl
names_turn a b c s t bound h = refl
names_turn a b c s t (fewer l) h = refl

well_formed_turn : (s t : Shape) → Becomes s t → Implies (well_formed s) (well_formed t)
well_formed_turn s t same h = h
well_formed_turn s t read h = refl
well_formed_turn s t set h = refl
well_formed_turn s t bound h = refl
well_formed_turn s t (fewer {parts} {dropped} {fewer_dropped} l) h = go parts h
  where
    go : (k : ℕ) → IsTrue (well_formed (shapes.sequence k dropped)) → IsTrue (well_formed (shapes.sequence k fewer_dropped))
    go zero h = absurd (cc)
    go (suc k) h = refl

constant_turn : (s t : Shape) → Becomes s t → Implies (constant_in_range s) (constant_in_range t)
constant_turn s t same h = h
constant_turn s t read h = refl
constant_turn s t set h = refl
constant_turn s t bound h = refl
constant_turn s t (fewer l) h = refl

-- ## No variable of a Fix is assigned

none_of : (x m : ℕ) (ls : Lambdas) (e : Tree) → ((y : ℕ) → assigns_lambdas ls y ≡ false) → ((y : ℕ) → assigns e y ≡ false) → IsTrue (none_assigned x m ls e)
none_of x zero ls e f g = refl
none_of x (suc m) ls e f g = and_of _ _ (ap not (neither (assigns_lambdas ls x) (assigns e x) (f x) (g x))) (none_of (suc x) m ls e f g)

-- ## Procedures within the limits

abbrev Small : ℕ → Type 0
Small m = IsTrue (nat_le m max_operands)

procedure_small : (p : Procedure) → IsTrue (procedure_fits max_variables p) → Small p.formals
procedure_small p h =
    let a = and_parts (not p.rest || nat_le 1 p.formals) (nat_le p.formals max_operands && (nat_le p.variables max_variables && nat_le p.free max_free_variables)) h in
    (and_parts (nat_le p.formals max_operands) (nat_le p.variables max_variables && nat_le p.free max_free_variables) a.1).0

abbrev fit : Tree → Bool
fit e = over true (λ a b. a && b) (λ e. fits max_variables (shape e)) e

abbrev fit_each : Trees → Bool
fit_each es = over_each true (λ a b. a && b) (λ e. fits max_variables (shape e)) es

abbrev fit_lambdas : Lambdas → Bool
fit_lambdas ls = over_lambdas true (λ a b. a && b) (λ e. fits max_variables (shape e)) ls

module _ (has_cell : ℕ → Bool) (n : ℕ) where
  reading_unassigned : (b : Bool) (x : ℕ) → IsTrue (fix_unassigned (reading n b x))
  reading_unassigned true x = refl
  reading_unassigned false x = refl

  reading_form : (b : Bool) (x : ℕ) → IsTrue (has_form true (shape (reading n b x)))
  reading_form true x = refl
  reading_form false x = refl

  form_node : (e : Tree) (S : List ℕ) → Right has_cell n e S → AllLow has_cell n S → Holds true (has_form true (shape (node_of has_cell n e)))
  form_node (constant c) S r g = refl
  form_node (literal k) S r g = refl
  form_node (variable x) S r g = reading_form (has_cell x) x
  form_node (global k) S r g = refl
  form_node (set_variable x e) S r g = refl
  form_node (set_global k e) S r g = refl
  form_node (define k e) S r g = refl
  form_node (branch a b c) S r g = refl
  form_node (sequence es) S r g = refl
  form_node (bind site x es e) S r g = refl
  form_node (fix x ls e) S r g = refl
  form_node (letrec site x es e) S r g = refl
  form_node (lambda name x m rest e) S r g = refl
  form_node (call site spread f es) S r g = refl
  form_node (operation site which es) S r g = refl
  form_node (new_cells cs e) S r g = absurd r
  form_node (cell_get x) S r g = absurd r
  form_node (cell_set x e) S r g = absurd r

  fix_node : (e : Tree) (S : List ℕ) → Right has_cell n e S → AllLow has_cell n S → Holds true (fix_unassigned (node_of has_cell n e))
  fix_node (constant c) S r g = refl
  fix_node (literal k) S r g = refl
  fix_node (variable x) S r g = reading_unassigned (has_cell x) x
  fix_node (global k) S r g = refl
  fix_node (set_variable x e) S r g = refl
  fix_node (set_global k e) S r g = refl
  fix_node (define k e) S r g = refl
  fix_node (branch a b c) S r g = refl
  fix_node (sequence es) S r g = refl
  fix_node (bind site x es e) S r g = refl
  fix_node (fix x ls e) S r g =
      none_of x (count_lambdas (converted_lambdas has_cell n ls)) (converted_lambdas has_cell n ls) (converted has_cell n e) (λ y. bodies.none_assigned_lambdas has_cell n ls y) (λ y. bodies.none_assigned has_cell n e y)
  fix_node (letrec site x es e) S r g = refl
  fix_node (lambda name x m rest e) S r g = refl
  fix_node (call site spread f es) S r g = refl
  fix_node (operation site which es) S r g = refl
  fix_node (new_cells cs e) S r g = absurd r
  fix_node (cell_get x) S r g = absurd r
  fix_node (cell_set x e) S r g = absurd r

  pub cells_length : (x m : ℕ) → length (cells_for has_cell n x m) ≤ m
  cells_length x zero = omega arith
  cells_length x (suc m) = go (has_cell x) (cells_length (suc x) m)
    where
      go : (b : Bool) → length (cells_for has_cell n (suc x) m) ≤ m → length (and_cell n b x (cells_for has_cell n (suc x) m)) ≤ suc m
      go true k = omega (arith, k)
      go false k = omega (arith, k)

  reading_fits : (b : Bool) (x : ℕ) → IsTrue (fit (reading n b x))
  reading_fits true x = refl
  reading_fits false x = refl

  wrapped_fits : (x m : ℕ) (e : Tree) → Small m → IsTrue (fit e) → IsTrue (fit (wrapped (cells_for has_cell n x m) e))
  wrapped_fits x m e s h = go (cells_for has_cell n x m) (cells_length x m)
    where
      go : (cs : List NewCell) → length cs ≤ m → IsTrue (fit (wrapped cs e))
      go [] l = h
      go (c ∷ cs) l = and_of _ _ (le-leb (length (c ∷ cs)) max_operands (let k = leb-true m max_operands s in omega (arith, k, l))) h

  filling_fits : (x m : ℕ) (e : Tree) → IsTrue (fit e) → IsTrue (fit_each (filling n x m e))
  filling_fits x zero e h = and_of _ _ h refl
  filling_fits x (suc m) e h = filling_fits (suc x) m e h

  mutual
    fits_kept : (e : Tree) (S : List ℕ) → Right has_cell n e S → AllLow has_cell n S → IsTrue (fit e) → IsTrue (fit (converted has_cell n e))
    fits_kept (constant c) S r g h = h
    fits_kept (literal k) S r g h = h
    fits_kept (variable x) S r g h = reading_fits (has_cell x) x
    fits_kept (global k) S r g h = h
    fits_kept (set_variable x e) S r g h = fits_kept e S r.2 g h
    fits_kept (set_global k e) S r g h = fits_kept e S r g h
    fits_kept (define k e) S r g h = fits_kept e S r g h
    fits_kept (branch a b c) S r g h =
        let p = and_parts (fit a) (fit b && fit c) h in
        let q = and_parts (fit b) (fit c) p.1 in
        and_of _ _ (fits_kept a S r.0 g p.0) (and_of _ _ (fits_kept b S r.1 g q.0) (fits_kept c S r.2 g q.1))
    fits_kept (sequence es) S r g h = each_fits es S r g h
    fits_kept (bind site x es e) S r g h =
        let m = count es in
        let p = and_parts (nat_le m max_operands) (fit_each es && fit e) h in
        let q = and_parts (fit_each es) (fit e) p.1 in
        rw (count_same has_cell n es) (and_of _ _ p.0 (and_of _ _ (each_fits es S r.0 g q.0) (wrapped_fits x m (converted has_cell n e) p.0 (fits_kept e (scope_with x m S) r.3 (low_with has_cell n x m S r.2 g) q.1))))
    fits_kept (fix x ls e) S r g h =
        let m = count_lambdas ls in
        let T = scope_with x m S in
        let low = low_with has_cell n x m S r.1 g in
        let p = and_parts (nat_le m max_operands && procedures_fit max_variables (procedures ls)) (fit_lambdas ls && fit e) h in
        let s = and_parts (nat_le m max_operands) (procedures_fit max_variables (procedures ls)) p.0 in
        let q = and_parts (fit_lambdas ls) (fit e) p.1 in
        rw (count_lambdas_same has_cell n ls, procedures_kept has_cell n ls T r.2 low)
        (and_of _ _ p.0 (and_of _ _ (lambdas_fit ls T r.2 low s.1 q.0) (fits_kept e T r.3 low q.1)))
    fits_kept (letrec site x es e) S r g h =
        let m = count es in
        let T = scope_with x m S in
        let low = low_with has_cell n x m S r.1 g in
        let p = and_parts (nat_le m max_operands) (fit_each es && fit e) h in
        let q = and_parts (fit_each es) (fit e) p.1 in
        rw (count_same has_cell n es, empty_length n x m) (and_of _ _ p.0 (and_of _ _ p.0 (and_of _ _ (each_fits es T r.2 low q.0) (filling_fits x m (converted has_cell n e) (fits_kept e T r.3 low q.1)))))
    fits_kept (lambda name x m rest e) S r g h =
        let p = and_parts (procedure_fits max_variables (procedure name x m rest e)) (fit e) h in
        and_of _ _ (subst (λ q. IsTrue (procedure_fits max_variables q)) (sym (procedure_kept has_cell n name x m rest e S r.0 r.1 r.2 g)) p.0)
        (wrapped_fits x m (converted has_cell n e) (procedure_small (procedure name x m rest e) p.0) (fits_kept e (scope_with x m S) r.2 (low_with has_cell n x m S r.1 g) p.1))
    fits_kept (call site spread f es) S r g h =
        let p = and_parts (nat_le (count es) max_operands) (fit f && fit_each es) h in
        let q = and_parts (fit f) (fit_each es) p.1 in
        rw (count_same has_cell n es) (and_of _ _ p.0 (and_of _ _ (fits_kept f S r.0 g q.0) (each_fits es S r.1 g q.1)))
    fits_kept (operation site which es) S r g h =
        let p = and_parts (nat_le (count es) max_operands) (fit_each es) h in
        rw (count_same has_cell n es) (and_of _ _ p.0 (each_fits es S r g p.1))
    fits_kept (new_cells cs e) S r g h = absurd r
    fits_kept (cell_get x) S r g h = absurd r
    fits_kept (cell_set x e) S r g h = absurd r

    each_fits : (es : Trees) (S : List ℕ) → RightEach has_cell n es S → AllLow has_cell n S → IsTrue (fit_each es) → IsTrue (fit_each (converted_each has_cell n es))
    each_fits no_trees S r g h = refl
    each_fits (and_tree e es) S r g h = let p = and_parts (fit e) (fit_each es) h in and_of _ _ (fits_kept e S r.0 g p.0) (each_fits es S r.1 g p.1)

    lambdas_fit : (ls : Lambdas) (S : List ℕ) → RightLambdas has_cell n ls S → AllLow has_cell n S → IsTrue (procedures_fit max_variables (procedures ls)) → IsTrue (fit_lambdas ls) → IsTrue (fit_lambdas (converted_lambdas has_cell n ls))
    lambdas_fit no_lambdas S r g s h = refl
    lambdas_fit (and_lambda name x m rest e ls) S r g s h =
        let p = and_parts (fit e) (fit_lambdas ls) h in
        let t = and_parts (procedure_fits max_variables (procedure name x m rest e)) (procedures_fit max_variables (procedures ls)) s in
        and_of _ _ (wrapped_fits x m (converted has_cell n e) (procedure_small (procedure name x m rest e) t.0) (fits_kept e (scope_with x m S) r.0.2 (low_with has_cell n x m S r.0.1 g) p.0)) (lambdas_fit ls S r.1 g t.1 p.1)

  forms_kept : (es : Trees) → RightEach has_cell n es [] → IsTrue (forms_fit es) → IsTrue (forms_fit (converted_each has_cell n es))
  forms_kept no_trees r h = refl
  forms_kept (and_tree e es) r h =
      let p = and_parts (nat_le (variables e []) max_variables) (forms_fit es) h in
      and_of _ _ (rw (form_variables has_cell n e r.0) p.0) (forms_kept es r.1 p.1)

  levels_fit : (a b : ℕ) → a ≤ 3 * b → IsTrue (nat_le b max_levels) → IsTrue (nat_le a (3 * max_levels))
  levels_fit a b l h = let k = leb-true b max_levels h in le-leb a (3 * max_levels) (omega (arith, l, k))

  -- ## The whole program

  module _ (p : Source) (r : IsRight has_cell n p) where
    pub scoped_kept : (n ≡ p.variables) → IsTrue (scoped p) → IsTrue (scoped (converted_source has_cell n p))
    scoped_kept e h =
        let a = and_parts (without_repeats (bound_of p) && below p.variables (bound_of p)) (closed_lambdas p.library [] && closed_each p.forms []) h in
        let d = and_parts (without_repeats (bound_of p)) (below p.variables (bound_of p)) a.0 in
        and_of _ _ (and_of _ _ (numbers_distinct has_cell n p r d.0) (numbers_below has_cell n p r (rw e d.1))) (program_closed has_cell n p r)

    pub formed_kept : IsTrue (formed false p) → IsTrue (formed true (converted_source has_cell n p))
    formed_kept h =
        let symbols = length p.statics.symbols in
        let literals = count_literals p.statics.literals in
        let globals = length p.statics.globals in
        let a = and_parts (every (λ e. has_form false (shape e)) p && every (λ e. names_known symbols literals globals (shape e)) p) (every (λ e. well_formed (shape e)) p && every fix_unassigned p) h in
        let b = and_parts (every (λ e. has_form false (shape e)) p) (every (λ e. names_known symbols literals globals (shape e)) p) a.0 in
        let c = and_parts (every (λ e. well_formed (shape e)) p) (every fix_unassigned p) a.1 in
        and_of _ _
        (and_of _ _ (source_kept has_cell n holds_joins true_first and_true (λ e. true) (λ e. has_form true (shape e)) form_node (λ cs e. refl) (λ x. refl) (λ x. refl) (λ x m e. refl) p r)
        (shapes_kept has_cell n implies_joins true_first and_true (names_known symbols literals globals) (names_known symbols literals globals) (names_turn symbols literals globals) (λ k. refl) refl refl (λ k. refl) p r b.1))
        (and_of _ _ (shapes_kept has_cell n implies_joins true_first and_true well_formed well_formed well_formed_turn (λ k. refl) refl refl (λ k. refl) p r c.0)
        (source_kept has_cell n holds_joins true_first and_true (λ e. true) fix_unassigned fix_node (λ cs e. refl) (λ x. refl) (λ x. refl) (λ x m e. refl) p r))

    pub words_kept : IsTrue (constants_in_range p) → IsTrue (constants_in_range (converted_source has_cell n p))
    words_kept h =
        let a = and_parts (every (λ e. constant_in_range (shape e)) p) (statics_in_range p.statics) h in
        and_of _ _ (shapes_kept has_cell n implies_joins true_first and_true constant_in_range constant_in_range constant_turn (λ k. refl) refl refl (λ k. refl) p r a.0) a.1

    pub limited_kept : IsTrue (within_limits false p) → IsTrue (within_limits true (converted_source has_cell n p))
    limited_kept h =
        let a = and_parts (nat_le (levels_lambdas p.library) max_levels && nat_le (levels_each p.forms) max_levels)
        ((procedures_fit max_variables (procedures p.library) && forms_fit p.forms) && every (λ e. fits max_variables (shape e)) p) h in
        let b = and_parts (nat_le (levels_lambdas p.library) max_levels) (nat_le (levels_each p.forms) max_levels) a.0 in
        let c = and_parts (procedures_fit max_variables (procedures p.library) && forms_fit p.forms) (every (λ e. fits max_variables (shape e)) p) a.1 in
        let d = and_parts (procedures_fit max_variables (procedures p.library)) (forms_fit p.forms) c.0 in
        let f = and_parts (fit_lambdas p.library) (fit_each p.forms) c.1 in
        and_of _ _
        (and_of _ _ (levels_fit _ (levels_lambdas p.library) (lambdas_within has_cell n p.library) b.0) (levels_fit _ (levels_each p.forms) (each_within has_cell n p.forms) b.1))
        (and_of _ _ (and_of _ _ (rw (procedures_kept has_cell n p.library [] r.library (nothing_low has_cell n)) d.0) (forms_kept p.forms r.forms d.1))
        (and_of _ _ (lambdas_fit p.library [] r.library (nothing_low has_cell n) d.0 f.0) (each_fits p.forms [] r.forms (nothing_low has_cell n) f.1)))

    pub sites_kept : sites_of (converted_source has_cell n p) ≡ sites_of p
    sites_kept = shapes_kept has_cell n (equal_joins [] (λ a b. a ++ b)) (λ a. refl) (λ a. append-nil a) site_of site_of site_turn (λ k. refl) refl refl (λ k. refl) p r

    pub sited_kept : IsTrue (sited p) → IsTrue (sited (converted_source has_cell n p))
    sited_kept h = subst (λ s. IsTrue (sites_once p.sites s)) (sym sites_kept) h

    pub ready_kept : IsTrue (statics_known p) → IsTrue (statics_known (converted_source has_cell n p))
    ready_kept h = rw (count_lambdas_same has_cell n p.library) h
