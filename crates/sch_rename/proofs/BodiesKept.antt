-- Numbering keeps the bodies of a program, and how many variables each of them may need.
use Rattle.std.proofs.Common.{◌≡◌, ℕ, zero, suc, ◌+◌, Bool, true, false, List, [], ◌∷◌, ◌++◌, map, length, refl, sym, ap, ◌∙◌, subst, arith}
use Rattle.std.specs.Prelude.{not}
use Rattle.sch_word.specs.trees.Bindings.{Bindings, with_variables, scope_with, numbers}
use Rattle.sch_lang.specs.Tree.{Expression, Expressions, Lambdas, Source, constant, literal, local, global, set_local, set_global, define, branch, sequence, bind, fix, letrec, lambda, call, operation, no_expressions, and_expression, no_lambdas, and_lambda, count, count_lambdas}
use Rattle.sch_lang.specs.Variables.{assigns}
use Rattle.sch_lang.specs.Meaning.{onto}
use Rattle.sch_lang.proofs.Environments.{onto_more}
use Rattle.sch_word.specs.trees.VariableCounts.{one_unless}
use Rattle.sch_lang.specs.Measures.{variables, variables_each, variables_operands, variables_parts, onto_assigned, onto_all, bound_count, counts_nothing, procedure, procedures}
use Rattle.sch_lang.specs.Bodies.{form, bodies, bodies_each, bodies_lambdas, bodies_forms, bodies_of}
use Rattle.sch_word.proofs.facts.Lists.{append_same, cons_same}
use Rattle.sch_cells.proofs.Unassigned.{all_same_length}
use Rattle.sch_cells.specs.Bodies as to
use Rattle.sch_rename.specs.Made.{binds, binds_each, binds_lambdas, renamed, renamed_each, renamed_lambdas, renamed_source}
use Rattle.sch_lang.specs.InScope.{InScope, EachInScope, LambdasInScope, IsClosed}
use Rattle.sch_rename.proofs.Scopes.{Falls, falls_more, falls_with, inside}
use Rattle.sch_rename.proofs.FreeKept.{counts, counts_lambdas, free_length}
use Rattle.sch_rename.proofs.AssignedKept.{first_assigned}
use Rattle.sch_rename.proofs.Same.{Fits, fits_with}

-- ## Which variables count once

-- which of n variables are not assigned, the farthest first
abbrev flags : ℕ → Expression → List Bool
flags zero e = []
flags (suc m) e = not (assigns e m) ∷ flags m e

flags_length : (m : ℕ) (e : Expression) → length (flags m e) ≡ m
flags_length zero e = refl
flags_length (suc m) e = ap suc (flags_length m e)

abbrev onto_unassigned : (j m : ℕ) → Expression → List Bool → List Bool
onto_unassigned j m e once = map (λ i. not (assigns e i)) (numbers j m) ++ once

nearest_last : (e : Expression) (once : List Bool) (j m : ℕ) → onto_unassigned j (suc m) e once ≡ onto_unassigned j m e (not (assigns e (j + m)) ∷ once)
nearest_last e once j zero = let q : j + 0 ≡ j = omega arith in rw q refl
nearest_last e once j (suc m) =
    let q : suc j + m ≡ j + suc m = omega arith in
    ap (λ l. not (assigns e j) ∷ l) (nearest_last e once (suc j) m ∙ ap (λ i. onto_unassigned (suc j) m e (not (assigns e i) ∷ once)) q)

nearest_onto : (m : ℕ) (e : Expression) (once : List Bool) → onto_unassigned 0 m e once ≡ onto (flags m e) once
nearest_onto zero e once = refl
nearest_onto (suc m) e once =
    let q : 0 + m ≡ m = omega arith in
    nearest_last e once 0 m ∙ ap (λ i. onto_unassigned 0 m e (not (assigns e i) ∷ once)) q ∙ nearest_onto m e (not (assigns e m) ∷ once)
    ∙ sym (onto_more (not (assigns e m)) (flags m e) once)

all_one_more : (m : ℕ) (b : Bool) (once : List Bool) → onto_all m b (b ∷ once) ≡ b ∷ onto_all m b once
all_one_more zero b once = refl
all_one_more (suc m) b once = ap (λ l. b ∷ l) (all_one_more m b once)

all_onto : (m : ℕ) (b : Bool) (once : List Bool) → onto_all m b once ≡ onto (to.all_same m b) once
all_onto zero b once = refl
all_onto (suc m) b once = sym (all_one_more m b once) ∙ all_onto m b (b ∷ once) ∙ sym (onto_more b (to.all_same m b) once)

unassigned_kept : (e : Expression) (x m : ℕ) (s : List ℕ) (y : ℕ) → Falls (scope_with x m s) y → InScope e (length s + m) → to.unassigned x m (renamed e (scope_with x m s) y) ≡ flags m e
unassigned_kept e x zero s y f i = refl
unassigned_kept e x (suc m) s y f i =
    let p : length s + suc m ≡ length (x ∷ s) + m = omega arith in
    rw (first_assigned e x m s y f i, unassigned_kept e (suc x) m (x ∷ s) y f (subst (InScope e) p i)) refl

count_kept : (e : Expression) (x m : ℕ) (s : List ℕ) (y : ℕ) → Falls (scope_with x m s) y → InScope e (length s + m) → to.bound_count x m (renamed e (scope_with x m s) y) ≡ bound_count m e
count_kept e x zero s y f i = refl
count_kept e x (suc m) s y f i =
    let p : length s + suc m ≡ length (x ∷ s) + m = omega arith in
    rw (first_assigned e x m s y f i, count_kept e (suc x) m (x ∷ s) y f (subst (InScope e) p i)) refl

-- under a binding
assigned_fits : {s : List ℕ} {once : List Bool} {once' : Bindings Bool} (e : Expression) (x m : ℕ) (y : ℕ) → Falls s x → Falls (scope_with x m s) y → InScope e (length s + m) → Fits s once once' →
    Fits (scope_with x m s) (onto_assigned m e once) (with_variables x (to.unassigned x m (renamed e (scope_with x m s) y)) once')
assigned_fits {s} {once} {once'} e x m y f g i h =
    let r : onto_assigned m e once ≡ onto (flags m e) once = nearest_onto m e once in
    rw (unassigned_kept e x m s y g i, r) (fits_with x m (flags m e) (flags_length m e) f h)

all_fits : {s : List ℕ} {once : List Bool} {once' : Bindings Bool} (x m : ℕ) (b : Bool) → Falls s x → Fits s once once' → Fits (scope_with x m s) (onto_all m b once) (with_variables x (to.all_same m b) once')
all_fits {s} {once} {once'} x m b f h = rw (all_onto m b once) (fits_with x m (to.all_same m b) (all_same_length m b) f h)

-- ## The counts

nothing_kept : (e : Expression) (s : List ℕ) (x : ℕ) {once : List Bool} {once' : Bindings Bool} → InScope e (length s) → Fits s once once' → one_unless (to.counts_nothing (renamed e s x) once') ≡ one_unless (counts_nothing e once)
nothing_kept (constant c) s x i h = refl
nothing_kept (literal n) s x i h = refl
nothing_kept (local k) s x {once} {once'} i h = rw (h.at k i) refl
nothing_kept (global g) s x i h = refl
nothing_kept (set_local k e) s x i h = refl
nothing_kept (set_global g e) s x i h = refl
nothing_kept (define g e) s x i h = refl
nothing_kept (branch a b c) s x i h = refl
nothing_kept (sequence es) s x i h = refl
nothing_kept (bind site es e) s x i h = refl
nothing_kept (fix ls e) s x i h = refl
nothing_kept (letrec site es e) s x i h = refl
nothing_kept (lambda name m rest e) s x i h = refl
nothing_kept (call site g es) s x i h = refl
nothing_kept (operation site which es) s x i h = refl

mutual
  variables_kept : (e : Expression) (s : List ℕ) (x : ℕ) {once : List Bool} {once' : Bindings Bool} → Falls s x → InScope e (length s) → Fits s once once' → to.variables (renamed e s x) once' ≡ variables e once
  variables_kept (constant c) s x f i h = refl
  variables_kept (literal n) s x f i h = refl
  variables_kept (local k) s x f i h = refl
  variables_kept (global g) s x f i h = refl
  variables_kept (set_local k e) s x f i h = rw (nothing_kept e s x i.1 h, variables_kept e s x f i.1 h) refl
  variables_kept (set_global g e) s x f i h = rw (nothing_kept e s x i h, variables_kept e s x f i h) refl
  variables_kept (define g e) s x f i h = rw (nothing_kept e s x i h, variables_kept e s x f i h) refl
  variables_kept (branch a b c) s x f i h =
      rw (variables_kept a s x f i.0 h, variables_kept b s (x + binds a) (falls_more s x _ (omega arith) f) i.1.0 h, variables_kept c s (x + binds a + binds b) (falls_more s x _ (omega arith) f) i.1.1 h) refl
  variables_kept (sequence es) s x f i h = parts_kept es s x f i h
  variables_kept (bind site es e) s x f i h =
      let m = count es in
      let y = x + m + binds_each es in
      let t = scope_with x m s in
      let g : Falls t y = falls_more t (x + m) _ (omega arith) (falls_with x m s f) in
      rw (
        counts es s (x + m),
        each_kept es s (x + m) (falls_more s x _ (omega arith) f) i.0 h,
        count_kept e x m s y g i.1,
        variables_kept e t y g (inside x m s (InScope e) i.1) (assigned_fits e x m y f g i.1 h),
      ) refl
  variables_kept (fix ls e) s x f i h =
      let m = count_lambdas ls in
      let t = scope_with x m s in
      rw (counts_lambdas ls t (x + m), variables_kept e t (x + m + binds_lambdas ls) (falls_more t (x + m) _ (omega arith) (falls_with x m s f)) (inside x m s (InScope e) i.1) (all_fits x m true f h)) refl
  variables_kept (letrec site es e) s x f i h =
      let m = count es in
      let t = scope_with x m s in
      rw (
        counts es t (x + m),
        each_kept es t (x + m) (falls_with x m s f) (inside x m s (EachInScope es) i.0) (all_fits x m false f h),
        variables_kept e t (x + m + binds_each es) (falls_more t (x + m) _ (omega arith) (falls_with x m s f)) (inside x m s (InScope e) i.1) (all_fits x m false f h),
      ) refl
  variables_kept (lambda name m rest e) s x f i h = refl
  variables_kept (call site g es) s x f i h =
      rw (nothing_kept g s x i.0 h, variables_kept g s x f i.0 h, operands_kept es s (x + binds g) (falls_more s x _ (omega arith) f) i.1 h) refl
  variables_kept (operation site which es) s x f i h = operands_kept es s x f i h

  each_kept : (es : Expressions) (s : List ℕ) (x : ℕ) {once : List Bool} {once' : Bindings Bool} → Falls s x → EachInScope es (length s) → Fits s once once' → to.variables_each (renamed_each es s x) once' ≡ variables_each es once
  each_kept no_expressions s x f i h = refl
  each_kept (and_expression e es) s x f i h = rw (variables_kept e s x f i.0 h, each_kept es s (x + binds e) (falls_more s x _ (omega arith) f) i.1 h) refl

  operands_kept : (es : Expressions) (s : List ℕ) (x : ℕ) {once : List Bool} {once' : Bindings Bool} → Falls s x → EachInScope es (length s) → Fits s once once' → to.variables_operands (renamed_each es s x) once' ≡ variables_operands es once
  operands_kept no_expressions s x f i h = refl
  operands_kept (and_expression e es) s x f i h =
      rw (nothing_kept e s x i.0 h, variables_kept e s x f i.0 h, operands_kept es s (x + binds e) (falls_more s x _ (omega arith) f) i.1 h) refl

  parts_kept : (es : Expressions) (s : List ℕ) (x : ℕ) {once : List Bool} {once' : Bindings Bool} → Falls s x → EachInScope es (length s) → Fits s once once' → to.variables_parts (renamed_each es s x) once' ≡ variables_parts es once
  parts_kept no_expressions s x f i h = refl
  parts_kept (and_expression e no_expressions) s x f i h = variables_kept e s x f i.0 h
  parts_kept (and_expression e (and_expression e' es)) s x f i h =
      rw (nothing_kept e s x i.0 h, variables_kept e s x f i.0 h, parts_kept (and_expression e' es) s (x + binds e) (falls_more s x _ (omega arith) f) i.1 h) refl

fits_nothing : {s : List ℕ} → Fits {A = Bool} s [] []
fits_nothing = record { at = λ k l. refl }

-- a lambda is the same procedure of the text
pub procedure_kept : (name : List ℕ) (m : ℕ) (rest : Bool) (e : Expression) (s : List ℕ) (x : ℕ) → Falls s x → InScope e (length s + m) →
    to.procedure name x m rest (renamed e (scope_with x m s) (x + m)) ≡ procedure name m rest e
procedure_kept name m rest e s x f i =
    let g = falls_with x m s f in
    rw (free_length m e s x f i, count_kept e x m s (x + m) g i, variables_kept e (scope_with x m s) (x + m) g (inside x m s (InScope e) i) (assigned_fits e x m (x + m) f g i fits_nothing)) refl

pub procedures_kept : (ls : Lambdas) (s : List ℕ) (x : ℕ) → Falls s x → LambdasInScope ls (length s) → to.procedures (renamed_lambdas ls s x) ≡ procedures ls
procedures_kept no_lambdas s x f i = refl
procedures_kept (and_lambda name m rest e ls) s x f i =
    rw (procedure_kept name m rest e s x f i.0, procedures_kept ls s (x + m + binds e) (falls_more s x _ (omega arith) f) i.1) refl

pub form_variables_kept : (e : Expression) (x : ℕ) → InScope e 0 → to.variables (renamed e [] x) [] ≡ variables e []
form_variables_kept e x i = variables_kept e [] x tt i fits_nothing

-- ## The bodies, in the order of a listing

mutual
  bodies_kept : (e : Expression) (s : List ℕ) (x : ℕ) → Falls s x → InScope e (length s) → to.bodies (renamed e s x) ≡ bodies e
  bodies_kept (constant c) s x f i = refl
  bodies_kept (literal n) s x f i = refl
  bodies_kept (local k) s x f i = refl
  bodies_kept (global g) s x f i = refl
  bodies_kept (set_local k e) s x f i = bodies_kept e s x f i.1
  bodies_kept (set_global g e) s x f i = bodies_kept e s x f i
  bodies_kept (define g e) s x f i = bodies_kept e s x f i
  bodies_kept (branch a b c) s x f i =
      append_same (bodies_kept a s x f i.0) (append_same (bodies_kept b s _ (falls_more s x _ (omega arith) f) i.1.0) (bodies_kept c s _ (falls_more s x _ (omega arith) f) i.1.1))
  bodies_kept (sequence es) s x f i = each_bodies es s x f i
  bodies_kept (bind site es e) s x f i =
      let m = count es in
      append_same (each_bodies es s (x + m) (falls_more s x _ (omega arith) f) i.0)
      (bodies_kept e (scope_with x m s) _ (falls_more _ (x + m) _ (omega arith) (falls_with x m s f)) (inside x m s (InScope e) i.1))
  bodies_kept (fix ls e) s x f i =
      let m = count_lambdas ls in
      append_same (lambdas_bodies ls (scope_with x m s) (x + m) (falls_with x m s f) (inside x m s (LambdasInScope ls) i.0))
      (bodies_kept e (scope_with x m s) _ (falls_more _ (x + m) _ (omega arith) (falls_with x m s f)) (inside x m s (InScope e) i.1))
  bodies_kept (letrec site es e) s x f i =
      let m = count es in
      append_same (each_bodies es (scope_with x m s) (x + m) (falls_with x m s f) (inside x m s (EachInScope es) i.0))
      (bodies_kept e (scope_with x m s) _ (falls_more _ (x + m) _ (omega arith) (falls_with x m s f)) (inside x m s (InScope e) i.1))
  bodies_kept (lambda name m rest e) s x f i =
      cons_same (procedure_kept name m rest e s x f i) (bodies_kept e (scope_with x m s) (x + m) (falls_with x m s f) (inside x m s (InScope e) i))
  bodies_kept (call site g es) s x f i = append_same (bodies_kept g s x f i.0) (each_bodies es s _ (falls_more s x _ (omega arith) f) i.1)
  bodies_kept (operation site which es) s x f i = each_bodies es s x f i

  each_bodies : (es : Expressions) (s : List ℕ) (x : ℕ) → Falls s x → EachInScope es (length s) → to.bodies_each (renamed_each es s x) ≡ bodies_each es
  each_bodies no_expressions s x f i = refl
  each_bodies (and_expression e es) s x f i = append_same (bodies_kept e s x f i.0) (each_bodies es s _ (falls_more s x _ (omega arith) f) i.1)

  lambdas_bodies : (ls : Lambdas) (s : List ℕ) (x : ℕ) → Falls s x → LambdasInScope ls (length s) → to.bodies_lambdas (renamed_lambdas ls s x) ≡ bodies_lambdas ls
  lambdas_bodies no_lambdas s x f i = refl
  lambdas_bodies (and_lambda name m rest e ls) s x f i =
      cons_same (procedure_kept name m rest e s x f i.0)
      (append_same (bodies_kept e (scope_with x m s) (x + m) (falls_with x m s f) (inside x m s (InScope e) i.0)) (lambdas_bodies ls s _ (falls_more s x _ (omega arith) f) i.1))

form_kept : (e : Expression) (x : ℕ) → InScope e 0 → to.form (renamed e [] x) ≡ form e
form_kept e x i = rw (form_variables_kept e x i) refl

forms_bodies : (es : Expressions) (x : ℕ) → EachInScope es 0 → to.bodies_forms (renamed_each es [] x) ≡ bodies_forms es
forms_bodies no_expressions x i = refl
forms_bodies (and_expression e es) x i = cons_same (form_kept e x i.0) (append_same (bodies_kept e [] x tt i.0) (forms_bodies es (x + binds e) i.1))

-- a program has the same bodies, each with its name, its formals, its free variables and its count
pub program_bodies : (p : Source) → IsClosed p → to.bodies_of (renamed_source p) ≡ bodies_of p
program_bodies p c = append_same (lambdas_bodies p.library [] 0 tt c.library) (forms_bodies p.forms _ c.forms)
