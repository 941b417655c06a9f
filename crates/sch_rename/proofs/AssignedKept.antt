-- Numbering keeps which variables are assigned, and so the charges of bindings.
use Rattle.std.proofs.Common.{◌≡◌, ℕ, zero, suc, ◌+◌, ◌<◌, Bool, List, ◌∷◌, length, refl, sym, ap, ◌∙◌, subst, arith}
use Rattle.sch_lang.specs.Tree.{Expression, Expressions, Lambdas, constant, literal, local, global, set_local, set_global, define, branch, sequence, bind, fix, letrec, lambda, call, operation, no_expressions, and_expression, no_lambdas, and_lambda, count, count_lambdas}
use Rattle.sch_lang.specs.Variables.{assigns, assigns_each, assigns_lambdas, cells_of}
use Rattle.sch_cells.specs.Variables as to
use Rattle.sch_lang.proofs.Environments.{cells_of_more}
use Rattle.sch_rename.specs.Made.{number_at, binds, binds_each, binds_lambdas, renamed, renamed_each, renamed_lambdas}
use Rattle.sch_lang.specs.InScope.{InScope, EachInScope, LambdasInScope}
use Rattle.sch_word.specs.trees.Bindings.{scope_with}
use Rattle.sch_word.proofs.facts.Booleans.{or_same}
use Rattle.sch_rename.proofs.Scopes.{Falls, falls_more, falls_with, with_length, inside, same_at}

at_deeper : (x m : ℕ) (s : List ℕ) (j : ℕ) → number_at (scope_with x m s) (j + m) ≡ number_at s j
at_deeper x zero s j = let e : j + zero ≡ j = omega arith in ap (number_at s) e
at_deeper x (suc m) s j = let e : j + suc m ≡ suc j + m = omega arith in ap (number_at (scope_with (suc x) m (x ∷ s))) e ∙ at_deeper (suc x) m (x ∷ s) (suc j)

at_first : (x m : ℕ) (s : List ℕ) → number_at (scope_with x (suc m) s) m ≡ x
at_first x m s = let e : m ≡ 0 + m = omega arith in ap (number_at (scope_with (suc x) m (x ∷ s))) e ∙ at_deeper (suc x) m (x ∷ s) 0

deeper : (x m : ℕ) (s : List ℕ) (j : ℕ) → j < length s → j + m < length (scope_with x m s)
deeper x m s j l = let e : length s + m ≡ length (scope_with x m s) = with_length x m s in omega (arith, e, l)

-- under a binding of m variables
shift : (F : ℕ → Bool) (x m : ℕ) (s : List ℕ) (j : ℕ) {b : Bool} → F (number_at (scope_with x m s) (j + m)) ≡ b → F (number_at s j) ≡ b
shift F x m s j h = ap F (sym (at_deeper x m s j)) ∙ h

mutual
  pub assigns_kept : (e : Expression) (s : List ℕ) (x j : ℕ) → Falls s x → InScope e (length s) → j < length s → to.assigns (renamed e s x) (number_at s j) ≡ assigns e j
  assigns_kept (constant c) s x j f i l = refl
  assigns_kept (literal n) s x j f i l = refl
  assigns_kept (local k) s x j f i l = refl
  assigns_kept (global g) s x j f i l = refl
  assigns_kept (set_local k e) s x j f i l = or_same (same_at s x k j f i.0 l) (assigns_kept e s x j f i.1 l)
  assigns_kept (set_global g e) s x j f i l = assigns_kept e s x j f i l
  assigns_kept (define g e) s x j f i l = assigns_kept e s x j f i l
  assigns_kept (branch a b c) s x j f i l =
      or_same (assigns_kept a s x j f i.0 l) (or_same (assigns_kept b s (x + binds a) j (falls_more s x _ (omega arith) f) i.1.0 l)
      (assigns_kept c s (x + binds a + binds b) j (falls_more s x _ (omega arith) f) i.1.1 l))
  assigns_kept (sequence es) s x j f i l = each_kept es s x j f i l
  assigns_kept (bind site es e) s x j f i l =
      let m = count es in
      or_same (each_kept es s (x + m) j (falls_more s x _ (omega arith) f) i.0 l)
      (shift (to.assigns (renamed e (scope_with x m s) (x + m + binds_each es))) x m s j (assigns_kept e (scope_with x m s) (x + m + binds_each es) (j + m) (falls_more (scope_with x m s) (x + m) _ (omega arith) (falls_with x m s f)) (inside x m s (InScope e) i.1) (deeper x m s j l)))
  assigns_kept (fix ls e) s x j f i l =
      let m = count_lambdas ls in
      or_same (shift (to.assigns_lambdas (renamed_lambdas ls (scope_with x m s) (x + m))) x m s j (lambdas_kept ls (scope_with x m s) (x + m) (j + m) (falls_with x m s f) (inside x m s (LambdasInScope ls) i.0) (deeper x m s j l)))
      (shift (to.assigns (renamed e (scope_with x m s) (x + m + binds_lambdas ls))) x m s j (assigns_kept e (scope_with x m s) (x + m + binds_lambdas ls) (j + m) (falls_more (scope_with x m s) (x + m) _ (omega arith) (falls_with x m s f)) (inside x m s (InScope e) i.1) (deeper x m s j l)))
  assigns_kept (letrec site es e) s x j f i l =
      let m = count es in
      or_same (shift (to.assigns_each (renamed_each es (scope_with x m s) (x + m))) x m s j (each_kept es (scope_with x m s) (x + m) (j + m) (falls_with x m s f) (inside x m s (EachInScope es) i.0) (deeper x m s j l)))
      (shift (to.assigns (renamed e (scope_with x m s) (x + m + binds_each es))) x m s j (assigns_kept e (scope_with x m s) (x + m + binds_each es) (j + m) (falls_more (scope_with x m s) (x + m) _ (omega arith) (falls_with x m s f)) (inside x m s (InScope e) i.1) (deeper x m s j l)))
  assigns_kept (lambda name m rest e) s x j f i l = shift (to.assigns (renamed e (scope_with x m s) (x + m))) x m s j (assigns_kept e (scope_with x m s) (x + m) (j + m) (falls_with x m s f) (inside x m s (InScope e) i) (deeper x m s j l))
  assigns_kept (call site g es) s x j f i l = or_same (assigns_kept g s x j f i.0 l) (each_kept es s (x + binds g) j (falls_more s x _ (omega arith) f) i.1 l)
  assigns_kept (operation site which es) s x j f i l = each_kept es s x j f i l

  each_kept : (es : Expressions) (s : List ℕ) (x j : ℕ) → Falls s x → EachInScope es (length s) → j < length s → to.assigns_each (renamed_each es s x) (number_at s j) ≡ assigns_each es j
  each_kept no_expressions s x j f i l = refl
  each_kept (and_expression e es) s x j f i l = or_same (assigns_kept e s x j f i.0 l) (each_kept es s (x + binds e) j (falls_more s x _ (omega arith) f) i.1 l)

  lambdas_kept : (ls : Lambdas) (s : List ℕ) (x j : ℕ) → Falls s x → LambdasInScope ls (length s) → j < length s → to.assigns_lambdas (renamed_lambdas ls s x) (number_at s j) ≡ assigns_lambdas ls j
  lambdas_kept no_lambdas s x j f i l = refl
  lambdas_kept (and_lambda name m rest e ls) s x j f i l =
      or_same (shift (to.assigns (renamed e (scope_with x m s) (x + m))) x m s j (assigns_kept e (scope_with x m s) (x + m) (j + m) (falls_with x m s f) (inside x m s (InScope e) i.0) (deeper x m s j l))) (lambdas_kept ls s (x + m + binds e) j (falls_more s x _ (omega arith) f) i.1 l)

-- the first of the variables that are bound
pub first_assigned : (e : Expression) (x m : ℕ) (s : List ℕ) (y : ℕ) → Falls (scope_with x (suc m) s) y → InScope e (length s + suc m) → to.assigns (renamed e (scope_with x (suc m) s) y) x ≡ assigns e m
first_assigned e x m s y f i =
    let t = scope_with x (suc m) s in
    let q : m < length t = (let e : length s + suc m ≡ length t = with_length x (suc m) s in omega (arith, e)) in
    ap (to.assigns (renamed e t y)) (sym (at_first x m s)) ∙ assigns_kept e t y m f (inside x (suc m) s (InScope e) i) q

pub first_assigned_lambdas : (ls : Lambdas) (x m : ℕ) (s : List ℕ) (y : ℕ) → Falls (scope_with x (suc m) s) y → LambdasInScope ls (length s + suc m) → to.assigns_lambdas (renamed_lambdas ls (scope_with x (suc m) s) y) x ≡ assigns_lambdas ls m
first_assigned_lambdas ls x m s y f i =
    let t = scope_with x (suc m) s in
    let q : m < length t = (let e : length s + suc m ≡ length t = with_length x (suc m) s in omega (arith, e)) in
    ap (to.assigns_lambdas (renamed_lambdas ls t y)) (sym (at_first x m s)) ∙ lambdas_kept ls t y m f (inside x (suc m) s (LambdasInScope ls) i) q

-- the same charges for a binding
pub cells_kept : (e : Expression) (x m : ℕ) (s : List ℕ) (y : ℕ) → Falls (scope_with x m s) y → InScope e (length s + m) → to.cells_of x m (renamed e (scope_with x m s) y) ≡ cells_of m e
cells_kept e x zero s y f i = refl
cells_kept e x (suc m) s y f i =
    let p : length s + suc m ≡ length (x ∷ s) + m = omega arith in
    rw (cells_of_more m e, first_assigned e x m s y f i, cells_kept e (suc x) m (x ∷ s) y f (subst (InScope e) p i)) refl
