-- A valid program with numbers is a valid cell program.
use Rattle.std.proofs.Common.{◌≡◌, ℕ, zero, suc, ◌+◌, true, false, List, [], ◌∷◌, ◌++◌, length, refl, ap, ◌∙◌, subst, arith}
use Rattle.std.specs.Prelude.{IsTrue, ◌&&◌, nat_le}
use Rattle.sch_word.proofs.facts.Booleans.{and_of, and_parts}
use Rattle.sch_word.specs.trees.Bindings.{scope_with}
use Rattle.sch_word.specs.values.Literals.{count_literals}
use Rattle.sch_word.specs.runs.Runs.{statics_in_range}
use Rattle.sch_word.specs.trees.Shape as shapes
use Rattle.sch_word.specs.trees.Shape.{names_known, constant_in_range, well_formed, fits, procedures_fit, max_variables, max_levels}
use Rattle.sch_word.proofs.Shaped.{Implies, implies_joins, same_implies, Holds, holds_joins}
use Rattle.sch_lang.specs.Tree.{Expression, Expressions, Lambdas, Source, constant, literal, local, global, set_local, set_global, define, branch, sequence, bind, fix, letrec, lambda, call, operation, no_expressions, and_expression, count_lambdas}
use Rattle.sch_lang.specs.Measures.{variables, levels_lambdas, levels_each}
use Rattle.sch_lang.specs.Valid as valid
use Rattle.sch_cells.specs.Measures as to
use Rattle.sch_cells.specs.Valid as to_valid
use Rattle.sch_rename.specs.Made.{binds, binds_each, binds_lambdas, renamed, renamed_each, renamed_lambdas, renamed_source}
use Rattle.sch_lang.specs.InScope.{InScope, EachInScope, LambdasInScope, IsClosed}
use Rattle.sch_lang.specs.InScope as source_scope
use Rattle.sch_rename.proofs.Scopes.{Falls, falls_more, falls_with}
use Rattle.sch_rename.proofs.FreeKept.{counts_lambdas}
use Rattle.sch_rename.proofs.AssignedKept.{first_assigned, first_assigned_lambdas}
use Rattle.sch_rename.proofs.BodiesKept.{procedures_kept, form_variables_kept}
use Rattle.sch_rename.proofs.ShapesKept.{shape_kept, source_kept, measure_kept}
use Rattle.sch_rename.proofs.LevelsKept.{each_levels, lambdas_levels}
use Rattle.sch_rename.proofs.Numbers.{program_bound, numbers_below, each_closed, lambdas_closed}
use Rattle.sch_word.proofs.facts.NumberSets.{distinct_numbers}

-- ## Nodes

none_kept : (ls : Lambdas) (e : Expression) (x m : ℕ) (s : List ℕ) (y z : ℕ) → Falls (scope_with x m s) y → Falls (scope_with x m s) z → LambdasInScope ls (length s + m) → InScope e (length s + m) → to_valid.none_assigned x m (renamed_lambdas ls (scope_with x m s) y) (renamed e (scope_with x m s) z) ≡ valid.none_assigned m ls e
none_kept ls e x zero s y z f g il i = refl
none_kept ls e x (suc m) s y z f g il i =
    let p : length s + suc m ≡ length (x ∷ s) + m = omega arith in
    rw (first_assigned_lambdas ls x m s y f il, first_assigned e x m s z g i, none_kept ls e (suc x) m (x ∷ s) y z f g (subst (LambdasInScope ls) p il) (subst (InScope e) p i)) refl

fix_node : (e : Expression) (s : List ℕ) (x : ℕ) → Falls s x → InScope e (length s) → Implies (valid.shaped_here e) (to_valid.fix_unassigned (renamed e s x))
fix_node (fix ls e) s x f i h =
    let m = count_lambdas ls in
    let g = falls_with x m s f in
    rw (counts_lambdas ls (scope_with x m s) (x + m), none_kept ls e x m s (x + m) (x + m + binds_lambdas ls) g (falls_more _ (x + m) _ (omega arith) g) i.0 i.1) h
fix_node (constant c) s x f i h = refl
fix_node (literal n) s x f i h = refl
fix_node (local k) s x f i h = refl
fix_node (global g) s x f i h = refl
fix_node (set_local k e) s x f i h = refl
fix_node (set_global g e) s x f i h = refl
fix_node (define g e) s x f i h = refl
fix_node (branch a b c) s x f i h = refl
fix_node (sequence es) s x f i h = refl
fix_node (bind site es e) s x f i h = refl
fix_node (letrec site es e) s x f i h = refl
fix_node (lambda name m rest e) s x f i h = refl
fix_node (call site g es) s x f i h = refl
fix_node (operation site which es) s x f i h = refl

well_formed_node : (e : Expression) (s : List ℕ) (x : ℕ) → Falls s x → InScope e (length s) → Implies (valid.shaped_here e) (well_formed (to.shape (renamed e s x)))
well_formed_node (fix ls e) s x f i h = refl
well_formed_node (constant c) s x f i h = same_implies (ap well_formed (shape_kept (constant c) s x f i)) h
well_formed_node (literal n) s x f i h = same_implies (ap well_formed (shape_kept (literal n) s x f i)) h
well_formed_node (local k) s x f i h = same_implies (ap well_formed (shape_kept (local k) s x f i)) h
well_formed_node (global g) s x f i h = same_implies (ap well_formed (shape_kept (global g) s x f i)) h
well_formed_node (set_local k e) s x f i h = same_implies (ap well_formed (shape_kept (set_local k e) s x f i)) h
well_formed_node (set_global g e) s x f i h = same_implies (ap well_formed (shape_kept (set_global g e) s x f i)) h
well_formed_node (define g e) s x f i h = same_implies (ap well_formed (shape_kept (define g e) s x f i)) h
well_formed_node (branch a b c) s x f i h = same_implies (ap well_formed (shape_kept (branch a b c) s x f i)) h
well_formed_node (sequence es) s x f i h = same_implies (ap well_formed (shape_kept (sequence es) s x f i)) h
well_formed_node (bind site es e) s x f i h = same_implies (ap well_formed (shape_kept (bind site es e) s x f i)) h
well_formed_node (letrec site es e) s x f i h = same_implies (ap well_formed (shape_kept (letrec site es e) s x f i)) h
well_formed_node (lambda name m rest e) s x f i h = same_implies (ap well_formed (shape_kept (lambda name m rest e) s x f i)) h
well_formed_node (call site g es) s x f i h = same_implies (ap well_formed (shape_kept (call site g es) s x f i)) h
well_formed_node (operation site which es) s x f i h = same_implies (ap well_formed (shape_kept (operation site which es) s x f i)) h

form_node : (e : Expression) (s : List ℕ) (x : ℕ) → Falls s x → InScope e (length s) → Holds true (to_valid.has_form false (to.shape (renamed e s x)))
form_node (constant c) s x f i = refl
form_node (literal n) s x f i = refl
form_node (local k) s x f i = refl
form_node (global g) s x f i = refl
form_node (set_local k e) s x f i = refl
form_node (set_global g e) s x f i = refl
form_node (define g e) s x f i = refl
form_node (branch a b c) s x f i = refl
form_node (sequence es) s x f i = refl
form_node (bind site es e) s x f i = refl
form_node (letrec site es e) s x f i = refl
form_node (lambda name m rest e) s x f i = refl
form_node (call site g es) s x f i = refl
form_node (operation site which es) s x f i = refl
form_node (fix ls e) s x f i = refl

forms_fit_kept : (es : Expressions) (x : ℕ) → EachInScope es 0 → Implies (valid.forms_fit es) (to_valid.forms_fit (renamed_each es [] x))
forms_fit_kept no_expressions x i h = refl
forms_fit_kept (and_expression e es) x i h =
    let p = and_parts (nat_le (variables e []) max_variables) (valid.forms_fit es) h in
    and_of _ _ (rw (form_variables_kept e x i.0) p.0) (forms_fit_kept es (x + binds e) i.1 p.1)

-- ## Programs

module _ (p : Source) (c : IsClosed p) where
  pub scoped_kept : IsTrue (to_valid.scoped (renamed_source p))
  scoped_kept =
      and_of _ _ (rw (program_bound p) (and_of _ _ (distinct_numbers 0 (binds_lambdas p.library + binds_each p.forms)) (numbers_below 0 (binds_lambdas p.library + binds_each p.forms) (binds_lambdas p.library + binds_each p.forms) (omega arith))))
      (and_of _ _ (lambdas_closed p.library [] 0 c.library) (each_closed p.forms [] _ c.forms))

  names : IsTrue (valid.in_range p) → IsTrue (to.every (λ e. names_known (length p.statics.symbols) (count_literals p.statics.literals) (length p.statics.globals) (to.shape e)) (renamed_source p))
  names in_range =
      measure_kept true (λ a b. a && b) (names_known (length p.statics.symbols) (count_literals p.statics.literals) (length p.statics.globals)) p c
      ∙ (and_parts (source_scope.each_in_scope p.forms 0) _ (and_parts (source_scope.lambdas_in_scope p.library 0) _ in_range).1).1

  pub formed_kept : IsTrue (valid.in_range p) → IsTrue (valid.shaped p) → IsTrue (to_valid.formed false (renamed_source p))
  formed_kept in_range h =
      and_of _ _ (and_of _ _ (source_kept holds_joins (λ _. true) (λ e. to_valid.has_form false (to.shape e)) form_node p c) (names in_range))
      (and_of _ _ (source_kept implies_joins valid.shaped_here (λ e. well_formed (to.shape e)) well_formed_node p c h)
      (source_kept implies_joins valid.shaped_here to_valid.fix_unassigned fix_node p c h))

  pub words_kept : IsTrue (valid.constants_in_range p) → IsTrue (to_valid.constants_in_range (renamed_source p))
  words_kept h = ap (λ b. b && statics_in_range p.statics) (measure_kept true (λ a b. a && b) constant_in_range p c) ∙ h

  pub limited_kept : IsTrue (valid.within_limits p) → IsTrue (to_valid.within_limits false (renamed_source p))
  limited_kept h =
      let l = and_parts (nat_le (levels_lambdas p.library) max_levels && nat_le (levels_each p.forms) max_levels) _ h in
      let n = and_parts (nat_le (levels_lambdas p.library) max_levels) (nat_le (levels_each p.forms) max_levels) l.0 in
      let b = and_parts (valid.lambdas_fit p.library && valid.forms_fit p.forms) _ l.1 in
      let d = and_parts (valid.lambdas_fit p.library) (valid.forms_fit p.forms) b.0 in
      and_of _ _ (and_of _ _ (ap (λ n. nat_le n max_levels) (lambdas_levels p.library [] 0) ∙ n.0) (ap (λ n. nat_le n max_levels) (each_levels p.forms [] _) ∙ n.1))
      (and_of _ _ (and_of _ _ (ap (procedures_fit max_variables) (procedures_kept p.library [] 0 tt c.library) ∙ d.0) (forms_fit_kept p.forms _ c.forms d.1))
      (measure_kept true (λ a b. a && b) (fits max_variables) p c ∙ b.1))

  pub sited_kept : IsTrue (valid.sites_once p) → IsTrue (to_valid.sited (renamed_source p))
  sited_kept h = ap (shapes.sites_once p.sites) (measure_kept [] (λ a b. a ++ b) shapes.site_of p c) ∙ h

pub ready_kept : (p : Source) → IsTrue (valid.statics_known p) → IsTrue (to_valid.statics_known (renamed_source p))
ready_kept p h = rw (counts_lambdas p.library [] 0) h
