-- In a flat program nodes name what there is and are well formed, and the limits hold.
use Rattle.std.proofs.Common.{ℕ, suc, ◌+◌, Bool, true, false, List, [], ◌∷◌, ◌++◌, refl}
use Rattle.std.specs.Prelude.{cond, IsTrue, ◌&&◌, ◌||◌, not, nat_le, nat_eq}
use Rattle.std.specs.List.{list_all}
use Rattle.sch_word.proofs.facts.Booleans.{and_of, and_parts}
use Rattle.sch_word.specs.trees.Shape as shapes
use Rattle.sch_word.specs.trees.Shape.{Shape, names_known, constant_in_range, well_formed, fits, procedure_fits, procedures_fit, max_operands, max_variables}
use Rattle.sch_cells.specs.Tree.{Tree, Trees, Lambdas, Source, constant, literal, variable, global, set_variable, set_global, define, branch, sequence, bind, fix, letrec, lambda, call, operation, new_cells, cell_get, cell_set, no_trees, and_tree, no_lambdas, and_lambda, count, count_lambdas}
use Rattle.sch_cells.specs.Measures as from
use Rattle.sch_cells.specs.Measures.{shape}
use Rattle.sch_cells.specs.Bodies as bodies
use Rattle.sch_cells.specs.Variables.{free}
use Rattle.sch_cells.specs.Valid as valid
use Rattle.sch_cells.specs.Clear.{ClearEach}
use Rattle.sch_flat.specs.Tree as flat
use Rattle.sch_flat.specs.Measures as to
use Rattle.sch_flat.specs.Valid.{body_fits, forms_fit}
use Rattle.sch_closure.specs.Closed.{place_from, placed, procedures, procedures_each, procedures_lambdas, fields_of, closed, closed_each, body_of, all_procedures, all_of_each, all_of_lambdas, closed_source}
use Rattle.sch_closure.specs.Fresh.{Fresh, FreshEach, FreshLambdas}
use Rattle.sch_closure.proofs.Same.{made_length, none_within}
use Rattle.sch_closure.proofs.Scopes.{free_within}
use Rattle.sch_closure.proofs.kept.ScopedKept.{counts, list_both}
use Rattle.sch_closure.proofs.kept.VariablesKept.{body_kept, form_kept}
use Rattle.sch_word.proofs.facts.Lists.{map_length}

-- the bodies of the procedures that a node is or has
abbrev pub own_lambdas : Lambdas → (n : ℕ) → List flat.Body
own_lambdas no_lambdas n = []
own_lambdas (and_lambda name x m rest e ls) n = body_of name x m rest e n ∷ own_lambdas ls (suc n + procedures e)

abbrev pub own : Tree → (n : ℕ) → List flat.Body
own (lambda name x m rest e) n = body_of name x m rest e n ∷ []
own (fix x ls e) n = own_lambdas ls n
own _ n = []

-- ## A test of each node and of each body

module _ (test : Tree → Bool) (test' : Shape → Bool) (ok : flat.Body → Bool)
    (node : (e : Tree) (fs : List ℕ) (n : ℕ) → Fresh e fs → IsTrue (test e) → IsTrue (test' (to.shape (closed e fs n))))
    (here : (e : Tree) (fs : List ℕ) (n : ℕ) → Fresh e fs → IsTrue (test e) → IsTrue (list_all ok (own e n))) where
  abbrev Passes : Tree → Type 0
  Passes e = IsTrue (from.over true (λ a b. a && b) test e)

  abbrev flat_passes : flat.Tree → Bool
  flat_passes e = to.over true (λ a b. a && b) test' e

  abbrev body_passes : flat.Body → Bool
  body_passes b = ok b && flat_passes b.code

  mutual
    pass : (e : Tree) (fs : List ℕ) (n : ℕ) → Fresh e fs → Passes e → IsTrue (flat_passes (closed e fs n))
    pass (constant c) fs n f h = node (constant c) fs n f h
    pass (literal i) fs n f h = node (literal i) fs n f h
    pass (variable x) fs n f h = node (variable x) fs n f h
    pass (global g) fs n f h = node (global g) fs n f h
    pass (set_variable x e) fs n f h = absurd f
    pass (set_global g e) fs n f h = let p = and_parts (test (set_global g e)) _ h in and_of _ _ (node (set_global g e) fs n f p.0) (pass e fs n f p.1)
    pass (define g e) fs n f h = let p = and_parts (test (define g e)) _ h in and_of _ _ (node (define g e) fs n f p.0) (pass e fs n f p.1)
    pass (branch a b c) fs n f h =
        let p = and_parts (test (branch a b c)) _ h in
        let q = and_parts (from.over true (λ a b. a && b) test a) _ p.1 in
        let r = and_parts (from.over true (λ a b. a && b) test b) _ q.1 in
        and_of _ _ (node (branch a b c) fs n f p.0) (and_of _ _ (pass a fs n f.0 q.0) (and_of _ _ (pass b fs (n + procedures a) f.1 r.0) (pass c fs (n + procedures a + procedures b) f.2 r.1)))
    pass (sequence es) fs n f h = let p = and_parts (test (sequence es)) _ h in and_of _ _ (node (sequence es) fs n f p.0) (pass_each es fs n f p.1)
    pass (bind site x es e) fs n f h =
        let p = and_parts (test (bind site x es e)) _ h in
        let q = and_parts (from.over_each true (λ a b. a && b) test es) _ p.1 in
        and_of _ _ (node (bind site x es e) fs n f p.0) (and_of _ _ (pass_each es fs n f.1 q.0) (pass e fs (n + procedures_each es) f.2 q.1))
    pass (fix x ls e) fs n f h =
        let p = and_parts (test (fix x ls e)) _ h in
        let q = and_parts (from.over_lambdas true (λ a b. a && b) test ls) _ p.1 in
        and_of _ _ (node (fix x ls e) fs n f p.0) (pass e fs (n + procedures_lambdas ls) f.2 q.1)
    pass (letrec site x es e) fs n f h = absurd f
    pass (lambda name x m rest e) fs n f h = let p = and_parts (test (lambda name x m rest e)) _ h in node (lambda name x m rest e) fs n f p.0
    pass (call site spread g es) fs n f h =
        let p = and_parts (test (call site spread g es)) _ h in
        let q = and_parts (from.over true (λ a b. a && b) test g) _ p.1 in
        and_of _ _ (node (call site spread g es) fs n f p.0) (and_of _ _ (pass g fs n f.0 q.0) (pass_each es fs (n + procedures g) f.1 q.1))
    pass (operation site which es) fs n f h = let p = and_parts (test (operation site which es)) _ h in and_of _ _ (node (operation site which es) fs n f p.0) (pass_each es fs n f p.1)
    pass (new_cells cs e) fs n f h = let p = and_parts (test (new_cells cs e)) _ h in and_of _ _ (node (new_cells cs e) fs n f p.0) (pass e fs n f.1 p.1)
    pass (cell_get x) fs n f h = node (cell_get x) fs n f h
    pass (cell_set x e) fs n f h = let p = and_parts (test (cell_set x e)) _ h in and_of _ _ (node (cell_set x e) fs n f p.0) (pass e fs n f p.1)

    pub pass_each : (es : Trees) (fs : List ℕ) (n : ℕ) → FreshEach es fs → IsTrue (from.over_each true (λ a b. a && b) test es) → IsTrue (to.over_each true (λ a b. a && b) test' (closed_each es fs n))
    pass_each no_trees fs n f h = refl
    pass_each (and_tree e es) fs n f h = let p = and_parts (from.over true (λ a b. a && b) test e) _ h in and_of _ _ (pass e fs n f.0 p.0) (pass_each es fs (n + procedures e) f.1 p.1)

  mutual
    inner : (e : Tree) (fs : List ℕ) (n : ℕ) → Fresh e fs → Passes e → IsTrue (list_all body_passes (all_procedures body_of e n))
    inner (constant c) fs n f h = refl
    inner (literal i) fs n f h = refl
    inner (variable x) fs n f h = refl
    inner (global g) fs n f h = refl
    inner (set_variable x e) fs n f h = absurd f
    inner (set_global g e) fs n f h = inner e fs n f (and_parts (test (set_global g e)) _ h).1
    inner (define g e) fs n f h = inner e fs n f (and_parts (test (define g e)) _ h).1
    inner (branch a b c) fs n f h =
        let p = and_parts (test (branch a b c)) _ h in
        let q = and_parts (from.over true (λ a b. a && b) test a) _ p.1 in
        let r = and_parts (from.over true (λ a b. a && b) test b) _ q.1 in
        list_both body_passes (all_procedures body_of a n) _ (inner a fs n f.0 q.0)
        (list_both body_passes (all_procedures body_of b (n + procedures a)) _ (inner b fs (n + procedures a) f.1 r.0) (inner c fs (n + procedures a + procedures b) f.2 r.1))
    inner (sequence es) fs n f h = inner_each es fs n f (and_parts (test (sequence es)) _ h).1
    inner (bind site x es e) fs n f h =
        let p = and_parts (test (bind site x es e)) _ h in
        let q = and_parts (from.over_each true (λ a b. a && b) test es) _ p.1 in
        list_both body_passes (all_of_each body_of es n) _ (inner_each es fs n f.1 q.0) (inner e fs (n + procedures_each es) f.2 q.1)
    inner (fix x ls e) fs n f h =
        let p = and_parts (test (fix x ls e)) _ h in
        let q = and_parts (from.over_lambdas true (λ a b. a && b) test ls) _ p.1 in
        list_both body_passes (all_of_lambdas body_of ls n) _ (inner_lambdas ls n f.1 (here (fix x ls e) fs n f p.0) q.0) (inner e fs (n + procedures_lambdas ls) f.2 q.1)
    inner (letrec site x es e) fs n f h = absurd f
    inner (lambda name x m rest e) fs n f h =
        let p = and_parts (test (lambda name x m rest e)) _ h in
        let o = and_parts (ok (body_of name x m rest e n)) true (here (lambda name x m rest e) fs n f p.0) in
        and_of _ _ (and_of _ _ o.0 (pass e (fields_of x m e) (suc n) f.1 p.1)) (inner e (fields_of x m e) (suc n) f.1 p.1)
    inner (call site spread g es) fs n f h =
        let p = and_parts (test (call site spread g es)) _ h in
        let q = and_parts (from.over true (λ a b. a && b) test g) _ p.1 in
        list_both body_passes (all_procedures body_of g n) _ (inner g fs n f.0 q.0) (inner_each es fs (n + procedures g) f.1 q.1)
    inner (operation site which es) fs n f h = inner_each es fs n f (and_parts (test (operation site which es)) _ h).1
    inner (new_cells cs e) fs n f h = inner e fs n f.1 (and_parts (test (new_cells cs e)) _ h).1
    inner (cell_get x) fs n f h = refl
    inner (cell_set x e) fs n f h = inner e fs n f (and_parts (test (cell_set x e)) _ h).1

    pub inner_each : (es : Trees) (fs : List ℕ) (n : ℕ) → FreshEach es fs → IsTrue (from.over_each true (λ a b. a && b) test es) → IsTrue (list_all body_passes (all_of_each body_of es n))
    inner_each no_trees fs n f h = refl
    inner_each (and_tree e es) fs n f h =
        let p = and_parts (from.over true (λ a b. a && b) test e) _ h in
        list_both body_passes (all_procedures body_of e n) _ (inner e fs n f.0 p.0) (inner_each es fs (n + procedures e) f.1 p.1)

    pub inner_lambdas : (ls : Lambdas) (n : ℕ) → FreshLambdas ls → IsTrue (list_all ok (own_lambdas ls n)) → IsTrue (from.over_lambdas true (λ a b. a && b) test ls)
        → IsTrue (list_all body_passes (all_of_lambdas body_of ls n))
    inner_lambdas no_lambdas n f o h = refl
    inner_lambdas (and_lambda name x m rest e ls) n f o h =
        let p = and_parts (from.over true (λ a b. a && b) test e) _ h in
        let q = and_parts (ok (body_of name x m rest e n)) _ o in
        and_of _ _ (and_of _ _ q.0 (pass e (fields_of x m e) (suc n) f.0.1 p.0))
        (list_both body_passes (all_procedures body_of e (suc n)) _ (inner e (fields_of x m e) (suc n) f.0.1 p.0) (inner_lambdas ls (suc n + procedures e) f.1 q.1 p.1))

-- of a list, each part of a test
first_of : {A : Type 0} (p q : A → Bool) (xs : List A) → IsTrue (list_all (λ x. p x && q x) xs) → IsTrue (list_all p xs)
first_of p q [] h = refl
first_of p q (x ∷ xs) h = let r = and_parts (p x && q x) _ h in and_of _ _ (and_parts (p x) (q x) r.0).0 (first_of p q xs r.1)

bodies_over : (test' : Shape → Bool) (ok : flat.Body → Bool) (bs : List flat.Body) → IsTrue (list_all (λ b. ok b && to.over true (λ a b. a && b) test' b.code) bs)
    → IsTrue (to.over_bodies true (λ a b. a && b) test' bs)
bodies_over test' ok [] h = refl
bodies_over test' ok (b ∷ bs) h =
    let r = and_parts (ok b && to.over true (λ a b. a && b) test' b.code) _ h in
    and_of _ _ (and_parts (ok b) (to.over true (λ a b. a && b) test' b.code) r.0).1 (bodies_over test' ok bs r.1)

-- ## Nodes

field_test : (test' : Shape → Bool) (fs : List ℕ) (k x : ℕ) → IsTrue (test' shapes.variable) → IsTrue (test' shapes.field) → IsTrue (test' (to.shape (flat.variable (place_from k fs x))))
field_test test' [] k x p q = p
field_test test' (y ∷ fs) k x p q = go (nat_eq x y) (field_test test' fs (suc k) x p q)
  where
    go : (b : Bool) → IsTrue (test' (to.shape (flat.variable (place_from (suc k) fs x)))) → IsTrue (test' (to.shape (flat.variable (cond b (flat.free k) (place_from (suc k) fs x)))))
    go true h = q
    go false h = h

module _ (symbols literals globals : ℕ) where
  names_node : (e : Tree) (fs : List ℕ) (n : ℕ) → Fresh e fs → IsTrue (names_known symbols literals globals (shape e)) → IsTrue (names_known symbols literals globals (to.shape (closed e fs n)))
  names_node (constant c) fs n f h = h
  names_node (literal i) fs n f h = h
  names_node (variable x) fs n f h = field_test (names_known symbols literals globals) fs 0 x refl refl
  names_node (global g) fs n f h = h
  names_node (set_variable x e) fs n f h = absurd f
  names_node (set_global g e) fs n f h = h
  names_node (define g e) fs n f h = h
  names_node (branch a b c) fs n f h = refl
  names_node (sequence es) fs n f h = refl
  names_node (bind site x es e) fs n f h = refl
  names_node (fix x ls e) fs n f h = refl
  names_node (letrec site x es e) fs n f h = absurd f
  names_node (lambda name x m rest e) fs n f h = refl
  names_node (call site spread g es) fs n f h = refl
  names_node (operation site which es) fs n f h = refl
  names_node (new_cells cs e) fs n f h = refl
  names_node (cell_get x) fs n f h = refl
  names_node (cell_set x e) fs n f h = refl

words_node : (e : Tree) (fs : List ℕ) (n : ℕ) → Fresh e fs → IsTrue (constant_in_range (shape e)) → IsTrue (constant_in_range (to.shape (closed e fs n)))
words_node (constant c) fs n f h = h
words_node (literal i) fs n f h = refl
words_node (variable x) fs n f h = field_test constant_in_range fs 0 x refl refl
words_node (global g) fs n f h = refl
words_node (set_variable x e) fs n f h = absurd f
words_node (set_global g e) fs n f h = refl
words_node (define g e) fs n f h = refl
words_node (branch a b c) fs n f h = refl
words_node (sequence es) fs n f h = refl
words_node (bind site x es e) fs n f h = refl
words_node (fix x ls e) fs n f h = refl
words_node (letrec site x es e) fs n f h = absurd f
words_node (lambda name x m rest e) fs n f h = refl
words_node (call site spread g es) fs n f h = refl
words_node (operation site which es) fs n f h = refl
words_node (new_cells cs e) fs n f h = refl
words_node (cell_get x) fs n f h = refl
words_node (cell_set x e) fs n f h = refl

well_formed_parts : (es : Trees) (d d' : ℕ) (fs : List ℕ) (n : ℕ) → IsTrue (well_formed (shapes.sequence (count es) d)) → IsTrue (well_formed (shapes.sequence (flat.count (closed_each es fs n)) d'))
well_formed_parts no_trees d d' fs n h = h
well_formed_parts (and_tree e es) d d' fs n h = refl

well_formed_node : (e : Tree) (fs : List ℕ) (n : ℕ) → Fresh e fs → IsTrue (well_formed (shape e)) → IsTrue (well_formed (to.shape (closed e fs n)))
well_formed_node (constant c) fs n f h = refl
well_formed_node (literal i) fs n f h = refl
well_formed_node (variable x) fs n f h = field_test well_formed fs 0 x refl refl
well_formed_node (global g) fs n f h = refl
well_formed_node (set_variable x e) fs n f h = absurd f
well_formed_node (set_global g e) fs n f h = refl
well_formed_node (define g e) fs n f h = refl
well_formed_node (branch a b c) fs n f h = refl
well_formed_node (sequence es) fs n f h = well_formed_parts es _ _ fs n h
well_formed_node (bind site x es e) fs n f h = refl
well_formed_node (fix x ls e) fs n f h = refl
well_formed_node (letrec site x es e) fs n f h = absurd f
well_formed_node (lambda name x m rest e) fs n f h = refl
well_formed_node (call site true g es) fs n f h = rw (counts es fs (n + procedures g)) h
well_formed_node (call site false g es) fs n f h = refl
well_formed_node (operation site which es) fs n f h = rw (counts es fs n) h
well_formed_node (new_cells cs e) fs n f h = refl
well_formed_node (cell_get x) fs n f h = refl
well_formed_node (cell_set x e) fs n f h = refl

fits_node : (e : Tree) (fs : List ℕ) (n : ℕ) → Fresh e fs → IsTrue (fits max_variables (shape e)) → IsTrue (fits max_variables (to.shape (closed e fs n)))
fits_node (constant c) fs n f h = refl
fits_node (literal i) fs n f h = refl
fits_node (variable x) fs n f h = field_test (fits max_variables) fs 0 x refl refl
fits_node (global g) fs n f h = refl
fits_node (set_variable x e) fs n f h = absurd f
fits_node (set_global g e) fs n f h = refl
fits_node (define g e) fs n f h = refl
fits_node (branch a b c) fs n f h = refl
fits_node (sequence es) fs n f h = refl
fits_node (bind site x es e) fs n f h = rw (counts es fs n) h
fits_node (fix x ls e) fs n f h = rw (made_length ls fs n) (and_parts (nat_le (count_lambdas ls) max_operands) _ h).0
fits_node (letrec site x es e) fs n f h = absurd f
fits_node (lambda name x m rest e) fs n f h = refl
fits_node (call site spread g es) fs n f h = rw (counts es fs (n + procedures g)) h
fits_node (operation site which es) fs n f h = rw (counts es fs n) h
fits_node (new_cells cs e) fs n f h = rw (map_length (placed fs) cs) h
fits_node (cell_get x) fs n f h = refl
fits_node (cell_set x e) fs n f h = refl

-- ## Bodies

body_fit : (name : List ℕ) (x m : ℕ) (rest : Bool) (e : Tree) (fs : List ℕ) (n : ℕ) → Fresh (lambda name x m rest e) fs → IsTrue (procedure_fits max_variables (bodies.procedure name x m rest e))
    → IsTrue (body_fits (body_of name x m rest e n))
body_fit name x m rest e fs n f h =
    let p = and_parts (not rest || nat_le 1 m) _ h in
    let q = and_parts (nat_le m max_operands) _ p.1 in
    let r = and_parts (nat_le (bodies.body_variables x m e) max_variables) _ q.1 in
    and_of _ _ p.0 (and_of _ _ q.0 (and_of _ _ r.1 (rw (body_kept name x m rest e n f.0 f.1) r.0)))

lambdas_fit : (ls : Lambdas) (n : ℕ) → FreshLambdas ls → IsTrue (procedures_fit max_variables (bodies.procedures ls)) → IsTrue (list_all body_fits (own_lambdas ls n))
lambdas_fit no_lambdas n f h = refl
lambdas_fit (and_lambda name x m rest e ls) n f h =
    let p = and_parts (procedure_fits max_variables (bodies.procedure name x m rest e)) _ h in
    and_of _ _ (body_fit name x m rest e [] n f.0 p.0) (lambdas_fit ls (suc n + procedures e) f.1 p.1)

own_fit : (e : Tree) (fs : List ℕ) (n : ℕ) → Fresh e fs → IsTrue (fits max_variables (shape e)) → IsTrue (list_all body_fits (own e n))
own_fit (constant c) fs n f h = refl
own_fit (literal i) fs n f h = refl
own_fit (variable x) fs n f h = refl
own_fit (global g) fs n f h = refl
own_fit (set_variable x e) fs n f h = refl
own_fit (set_global g e) fs n f h = refl
own_fit (define g e) fs n f h = refl
own_fit (branch a b c) fs n f h = refl
own_fit (sequence es) fs n f h = refl
own_fit (bind site x es e) fs n f h = refl
own_fit (fix x ls e) fs n f h = lambdas_fit ls n f.1 (and_parts (nat_le (count_lambdas ls) max_operands) _ h).1
own_fit (letrec site x es e) fs n f h = refl
own_fit (lambda name x m rest e) fs n f h = and_of _ _ (body_fit name x m rest e fs n f h) refl
own_fit (call site spread g es) fs n f h = refl
own_fit (operation site which es) fs n f h = refl
own_fit (new_cells cs e) fs n f h = refl
own_fit (cell_get x) fs n f h = refl
own_fit (cell_set x e) fs n f h = refl

abbrev anything : flat.Body → Bool
anything b = true

every_body : (bs : List flat.Body) → IsTrue (list_all anything bs)
every_body [] = refl
every_body (b ∷ bs) = every_body bs

forms_kept : (es : Trees) (n : ℕ) → FreshEach es [] → ClearEach es [] → IsTrue (valid.forms_fit es) → IsTrue (forms_fit (closed_each es [] n))
forms_kept no_trees n f c h = refl
forms_kept (and_tree e es) n f c h =
    let p = and_parts (nat_le (bodies.variables e []) max_variables) _ h in
    and_of _ _ (rw (form_kept e n f.0 (none_within (free e) (free_within e [] c.0))) p.0) (forms_kept es (n + procedures e) f.1 c.1 p.1)

-- ## Programs

module _ (p : Source) (fl : FreshLambdas p.library) (f : FreshEach p.forms []) where
  abbrev start : ℕ
  start = procedures_lambdas p.library

  source_over : (test : Tree → Bool) (test' : Shape → Bool)
      (node : (e : Tree) (fs : List ℕ) (n : ℕ) → Fresh e fs → IsTrue (test e) → IsTrue (test' (to.shape (closed e fs n)))) → IsTrue (from.every test p)
      → IsTrue (to.over_source true (λ a b. a && b) test' (closed_source p))
  source_over test test' node h =
      let q = and_parts (from.over_lambdas true (λ a b. a && b) test p.library) _ h in
      let here : (e : Tree) (fs : List ℕ) (n : ℕ) → Fresh e fs → IsTrue (test e) → IsTrue (list_all anything (own e n)) = λ e fs n _ _. every_body (own e n) in
      and_of _ _
      (bodies_over test' anything (all_of_lambdas body_of p.library 0 ++ all_of_each body_of p.forms start)
      (list_both (λ b. anything b && to.over true (λ a b. a && b) test' b.code) (all_of_lambdas body_of p.library 0) (all_of_each body_of p.forms start)
      (inner_lambdas test test' anything node here p.library 0 fl (every_body (own_lambdas p.library 0)) q.0) (inner_each test test' anything node here p.forms [] start f q.1)))
      (pass_each test test' anything node here p.forms [] start f q.1)

  pub bodies_fit : IsTrue (procedures_fit max_variables (bodies.procedures p.library)) → IsTrue (from.every (λ e. fits max_variables (shape e)) p)
      → IsTrue (list_all body_fits (closed_source p).bodies)
  bodies_fit l h =
      let test : Tree → Bool = λ e. fits max_variables (shape e) in
      let q = and_parts (from.over_lambdas true (λ a b. a && b) test p.library) _ h in
      first_of body_fits (λ b. to.over true (λ a b. a && b) (fits max_variables) b.code) (all_of_lambdas body_of p.library 0 ++ all_of_each body_of p.forms start)
      (list_both (λ b. body_fits b && to.over true (λ a b. a && b) (fits max_variables) b.code) (all_of_lambdas body_of p.library 0) (all_of_each body_of p.forms start)
      (inner_lambdas test (fits max_variables) body_fits fits_node own_fit p.library 0 fl (lambdas_fit p.library 0 fl l) q.0)
      (inner_each test (fits max_variables) body_fits fits_node own_fit p.forms [] start f q.1))

  pub names_kept : (symbols literals globals : ℕ) → IsTrue (from.every (λ e. names_known symbols literals globals (shape e)) p)
      → IsTrue (to.over_source true (λ a b. a && b) (names_known symbols literals globals) (closed_source p))
  names_kept symbols literals globals h = source_over (λ e. names_known symbols literals globals (shape e)) (names_known symbols literals globals) (names_node symbols literals globals) h

  pub words_kept : IsTrue (from.every (λ e. constant_in_range (shape e)) p) → IsTrue (to.over_source true (λ a b. a && b) constant_in_range (closed_source p))
  words_kept h = source_over (λ e. constant_in_range (shape e)) constant_in_range words_node h

  pub well_formed_kept : IsTrue (from.every (λ e. well_formed (shape e)) p) → IsTrue (to.over_source true (λ a b. a && b) well_formed (closed_source p))
  well_formed_kept h = source_over (λ e. well_formed (shape e)) well_formed well_formed_node h

  pub fits_kept : IsTrue (from.every (λ e. fits max_variables (shape e)) p) → IsTrue (to.over_source true (λ a b. a && b) (fits max_variables) (closed_source p))
  fits_kept h = source_over (λ e. fits max_variables (shape e)) (fits max_variables) fits_node h

  pub forms_fit_kept : ClearEach p.forms [] → IsTrue (valid.forms_fit p.forms) → IsTrue (forms_fit (closed_each p.forms [] start))
  forms_fit_kept c h = forms_kept p.forms start f c h
