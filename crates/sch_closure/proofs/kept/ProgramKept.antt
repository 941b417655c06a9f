-- A flat program has the sites, tests, dropped atoms, bodies and size of the program that it comes from.
use Rattle.std.proofs.Common.{◌≡◌, ℕ, suc, ◌+◌, Bool, true, false, List, [], ◌∷◌, ◌++◌, map, refl, sym, ap, ◌∙◌, arith, cond}
use Rattle.std.specs.Prelude.{nat_eq}
use Rattle.std.specs.List.{count_by}
use Rattle.std.proofs.lemmas.List.Sums.{sum_by-append}
use Rattle.std.proofs.lemmas.List.{map-append}
use Rattle.sch_word.specs.trees.Shape as shapes
use Rattle.sch_word.specs.trees.Shape.{Shape, procedures_size}
use Rattle.sch_cells.specs.Tree.{Tree, Trees, Lambdas, Source, constant, literal, variable, global, set_variable, set_global, define, branch, sequence, bind, fix, letrec, lambda, call, operation, new_cells, cell_get, cell_set, no_trees, and_tree, no_lambdas, and_lambda}
use Rattle.sch_cells.specs.Bodies as bodies
use Rattle.sch_cells.specs.Clear.{ClearEach}
use Rattle.sch_cells.specs.Measures as from
use Rattle.sch_cells.specs.Measures.{shape}
use Rattle.sch_cells.specs.Variables.{free}
use Rattle.sch_word.specs.trees.NodeWeights as weights
use Rattle.sch_word.specs.trees.NodeWeights.{all_entered, entered, free_of, procedures_weight, weight_of}
use Rattle.sch_flat.specs.Tree as flat
use Rattle.sch_flat.specs.Measures as to
use Rattle.sch_closure.specs.Closed.{place, place_from, placed, made_each, procedures, procedures_each, procedures_lambdas, fields_of, closed, closed_each, body_of, all_procedures, all_of_each, all_of_lambdas, closed_source}
use Rattle.sch_closure.specs.Fresh.{Fresh, FreshEach, FreshLambdas}
use Rattle.sch_closure.specs.Kept.{SameItems, procedure_of, procedures_in, forms_in, flat_forms}
use Rattle.sch_closure.proofs.kept.CountsKept.{same_source, same_alone, sum_per}
use Rattle.sch_closure.proofs.kept.FormedKept.{own, own_lambdas}
use Rattle.sch_closure.proofs.Same.{made_length, none_within}
use Rattle.sch_closure.proofs.Scopes.{free_within}
use Rattle.sch_closure.proofs.kept.ScopedKept.{counts}
use Rattle.sch_closure.proofs.kept.ValidKept.{sites_counted}
use Rattle.sch_closure.proofs.kept.VariablesKept.{body_kept, form_kept}
use Rattle.sch_word.proofs.facts.Lists.{map_length}

-- what is the same of a variable and of a field is that of a variable in any body
field_same : {A : Type 0} (m : Shape → A) (fs : List ℕ) (k x : ℕ) → m shapes.field ≡ m shapes.variable → m shapes.variable ≡ m (to.shape (flat.variable (place_from k fs x)))
field_same m [] k x h = refl
field_same m (y ∷ fs) k x h = go (nat_eq x y) (field_same m fs (suc k) x h)
  where
    go : (b : Bool) → m shapes.variable ≡ m (to.shape (flat.variable (place_from (suc k) fs x)))
        → m shapes.variable ≡ m (to.shape (flat.variable (cond b (flat.free k) (place_from (suc k) fs x))))
    go true i = sym h
    go false i = i

call_node : (e : Tree) (fs : List ℕ) (n : ℕ) → Fresh e fs → shapes.call_site_of (shape e) ≡ shapes.call_site_of (to.shape (closed e fs n))
call_node (constant c) fs n f = refl
call_node (literal i) fs n f = refl
call_node (variable x) fs n f = field_same shapes.call_site_of fs 0 x refl
call_node (global g) fs n f = refl
call_node (set_variable x e) fs n f = absurd f
call_node (set_global g e) fs n f = refl
call_node (define g e) fs n f = refl
call_node (branch a b c) fs n f = refl
call_node (sequence es) fs n f = refl
call_node (bind site x es e) fs n f = refl
call_node (fix x ls e) fs n f = refl
call_node (letrec site x es e) fs n f = absurd f
call_node (lambda name x m rest e) fs n f = refl
call_node (call site spread g es) fs n f = refl
call_node (operation site which es) fs n f = refl
call_node (new_cells cs e) fs n f = refl
call_node (cell_get x) fs n f = refl
call_node (cell_set x e) fs n f = refl

test_node : (e : Tree) (fs : List ℕ) (n : ℕ) → Fresh e fs → shapes.tests_in (shape e) ≡ shapes.tests_in (to.shape (closed e fs n))
test_node (constant c) fs n f = refl
test_node (literal i) fs n f = refl
test_node (variable x) fs n f = field_same shapes.tests_in fs 0 x refl
test_node (global g) fs n f = refl
test_node (set_variable x e) fs n f = absurd f
test_node (set_global g e) fs n f = refl
test_node (define g e) fs n f = refl
test_node (branch a b c) fs n f = refl
test_node (sequence es) fs n f = refl
test_node (bind site x es e) fs n f = refl
test_node (fix x ls e) fs n f = refl
test_node (letrec site x es e) fs n f = absurd f
test_node (lambda name x m rest e) fs n f = refl
test_node (call site spread g es) fs n f = refl
test_node (operation site which es) fs n f = refl
test_node (new_cells cs e) fs n f = refl
test_node (cell_get x) fs n f = refl
test_node (cell_set x e) fs n f = refl

atom_node : (e : Tree) (fs : List ℕ) (n : ℕ) → Fresh e fs → cond (to.is_atom (closed e fs n)) 1 0 ≡ from.one_if_atom e
atom_node (constant c) fs n f = refl
atom_node (literal i) fs n f = refl
atom_node (variable x) fs n f = refl
atom_node (global g) fs n f = refl
atom_node (set_variable x e) fs n f = absurd f
atom_node (set_global g e) fs n f = refl
atom_node (define g e) fs n f = refl
atom_node (branch a b c) fs n f = refl
atom_node (sequence es) fs n f = refl
atom_node (bind site x es e) fs n f = refl
atom_node (fix x ls e) fs n f = refl
atom_node (letrec site x es e) fs n f = absurd f
atom_node (lambda name x m rest e) fs n f = refl
atom_node (call site spread g es) fs n f = refl
atom_node (operation site which es) fs n f = refl
atom_node (new_cells cs e) fs n f = refl
atom_node (cell_get x) fs n f = refl
atom_node (cell_set x e) fs n f = refl

parts_dropped : (es : Trees) (fs : List ℕ) (n : ℕ) → FreshEach es fs → from.dropped_parts es ≡ to.dropped (closed_each es fs n)
parts_dropped no_trees fs n f = refl
parts_dropped (and_tree e no_trees) fs n f = refl
parts_dropped (and_tree e (and_tree e' es)) fs n f = rw (atom_node e fs n f.0, ← parts_dropped (and_tree e' es) fs (n + procedures e) f.1) refl

dropped_node : (e : Tree) (fs : List ℕ) (n : ℕ) → Fresh e fs → shapes.dropped_in (shape e) ≡ shapes.dropped_in (to.shape (closed e fs n))
dropped_node (constant c) fs n f = refl
dropped_node (literal i) fs n f = refl
dropped_node (variable x) fs n f = field_same shapes.dropped_in fs 0 x refl
dropped_node (global g) fs n f = refl
dropped_node (set_variable x e) fs n f = absurd f
dropped_node (set_global g e) fs n f = refl
dropped_node (define g e) fs n f = refl
dropped_node (branch a b c) fs n f = refl
dropped_node (sequence es) fs n f = parts_dropped es fs n f
dropped_node (bind site x es e) fs n f = refl
dropped_node (fix x ls e) fs n f = refl
dropped_node (letrec site x es e) fs n f = absurd f
dropped_node (lambda name x m rest e) fs n f = refl
dropped_node (call site spread g es) fs n f = refl
dropped_node (operation site which es) fs n f = refl
dropped_node (new_cells cs e) fs n f = refl
dropped_node (cell_get x) fs n f = refl
dropped_node (cell_set x e) fs n f = refl

-- ## Sizes

-- one for a body, its formals and its fields
abbrev body_size : flat.Body → ℕ
body_size b = 1 + b.formals + b.fields

sizes_are : (bs : List flat.Body) → to.bodies_size bs ≡ sum_per body_size bs
sizes_are [] = refl
sizes_are (b ∷ bs) = rw (sizes_are bs) refl

lambdas_size : (ls : Lambdas) (n : ℕ) → procedures_size (bodies.procedures ls) ≡ sum_per body_size (own_lambdas ls n)
lambdas_size no_lambdas n = refl
lambdas_size (and_lambda name x m rest e ls) n = rw (lambdas_size ls (suc n + procedures e)) refl

size_node : (e : Tree) (fs : List ℕ) (n : ℕ) → Fresh e fs → shapes.size_of (shape e) ≡ shapes.size_of (to.shape (closed e fs n)) + sum_per body_size (own e n)
size_node (constant c) fs n f = omega arith
size_node (literal i) fs n f = omega arith
size_node (variable x) fs n f = omega (arith, field_same shapes.size_of fs 0 x refl)
size_node (global g) fs n f = omega arith
size_node (set_variable x e) fs n f = absurd f
size_node (set_global g e) fs n f = omega arith
size_node (define g e) fs n f = omega arith
size_node (branch a b c) fs n f = omega arith
size_node (sequence es) fs n f = omega arith
size_node (bind site x es e) fs n f = omega (arith, counts es fs n)
size_node (fix x ls e) fs n f = omega (arith, made_length ls fs n, lambdas_size ls n)
size_node (letrec site x es e) fs n f = absurd f
size_node (lambda name x m rest e) fs n f = omega arith
size_node (call site spread g es) fs n f = omega arith
size_node (operation site which es) fs n f = omega arith
size_node (new_cells cs e) fs n f = omega (arith, map_length (placed fs) cs)
size_node (cell_get x) fs n f = omega arith
size_node (cell_set x e) fs n f = omega arith

-- ## Weights

fields_weight : (ls : Lambdas) (fs : List ℕ) (n : ℕ) → weights.fields_of (to.made_shapes (made_each ls fs n)) ≡ free_of (bodies.procedures ls)
fields_weight no_lambdas fs n = refl
fields_weight (and_lambda name x m rest e ls) fs n = omega (arith, fields_weight ls fs (suc n + procedures e), map_length (place fs) (fields_of x m e))

-- what a body weighs beside its nodes
abbrev body_weight : flat.Body → ℕ
body_weight b = entered b.formals

weights_are : (bs : List flat.Body) → all_entered (map (λ b. b.formals) bs) ≡ sum_per body_weight bs
weights_are [] = refl
weights_are (b ∷ bs) = rw (weights_are bs) refl

lambdas_weight : (ls : Lambdas) (n : ℕ) → procedures_weight (bodies.procedures ls) ≡ sum_per body_weight (own_lambdas ls n)
lambdas_weight no_lambdas n = refl
lambdas_weight (and_lambda name x m rest e ls) n = rw (lambdas_weight ls (suc n + procedures e)) refl

weight_node : (e : Tree) (fs : List ℕ) (n : ℕ) → Fresh e fs → weight_of (shape e) ≡ weight_of (to.shape (closed e fs n)) + sum_per body_weight (own e n)
weight_node (constant c) fs n f = omega arith
weight_node (literal i) fs n f = omega arith
weight_node (variable x) fs n f = omega (arith, field_same weight_of fs 0 x refl)
weight_node (global g) fs n f = omega arith
weight_node (set_variable x e) fs n f = absurd f
weight_node (set_global g e) fs n f = omega arith
weight_node (define g e) fs n f = omega arith
weight_node (branch a b c) fs n f = omega arith
weight_node (sequence no_trees) fs n f = omega arith
weight_node (sequence (and_tree e es)) fs n f = omega (arith, counts es fs (n + procedures e))
weight_node (bind site x es e) fs n f = omega (arith, counts es fs n)
weight_node (fix x ls e) fs n f = omega (arith, fields_weight ls fs n, made_length ls fs n, lambdas_weight ls n)
weight_node (letrec site x es e) fs n f = absurd f
weight_node (lambda name x m rest e) fs n f = omega (arith, map_length (place fs) (fields_of x m e))
weight_node (call site spread g es) fs n f = omega (arith, counts es fs (n + procedures g))
weight_node (operation site which es) fs n f = omega (arith, counts es fs n)
weight_node (new_cells cs e) fs n f = omega (arith, map_length (placed fs) cs)
weight_node (cell_get x) fs n f = omega arith
weight_node (cell_set x e) fs n f = omega arith

-- ## Bodies

lists : (xs ys : List flat.Body) (ps qs : List shapes.Procedure) → map procedure_of xs ≡ ps → map procedure_of ys ≡ qs → map procedure_of (xs ++ ys) ≡ ps ++ qs
lists xs ys ps qs p q = map-append procedure_of xs ys ∙ ap (λ l. l ++ map procedure_of ys) p ∙ ap (λ l. ps ++ l) q

one : (name : List ℕ) (x m : ℕ) (rest : Bool) (e : Tree) (n : ℕ) (fs : List ℕ) → Fresh (lambda name x m rest e) fs → procedure_of (body_of name x m rest e n) ≡ bodies.procedure name x m rest e
one name x m rest e n fs f = rw (body_kept name x m rest e n f.0 f.1) refl

mutual
  body_list : (e : Tree) (fs : List ℕ) (n : ℕ) → Fresh e fs → map procedure_of (all_procedures body_of e n) ≡ bodies.bodies e
  body_list (constant c) fs n f = refl
  body_list (literal i) fs n f = refl
  body_list (variable x) fs n f = refl
  body_list (global g) fs n f = refl
  body_list (set_variable x e) fs n f = absurd f
  body_list (set_global g e) fs n f = body_list e fs n f
  body_list (define g e) fs n f = body_list e fs n f
  body_list (branch a b c) fs n f =
      lists (all_procedures body_of a n) _ _ _ (body_list a fs n f.0)
      (lists (all_procedures body_of b (n + procedures a)) _ _ _ (body_list b fs (n + procedures a) f.1) (body_list c fs (n + procedures a + procedures b) f.2))
  body_list (sequence es) fs n f = each_list es fs n f
  body_list (bind site x es e) fs n f = lists (all_of_each body_of es n) _ _ _ (each_list es fs n f.1) (body_list e fs (n + procedures_each es) f.2)
  body_list (fix x ls e) fs n f = lists (all_of_lambdas body_of ls n) _ _ _ (lambdas_list ls n f.1) (body_list e fs (n + procedures_lambdas ls) f.2)
  body_list (letrec site x es e) fs n f = absurd f
  body_list (lambda name x m rest e) fs n f = rw (one name x m rest e n fs f) (ap (λ l. bodies.procedure name x m rest e ∷ l) (body_list e (fields_of x m e) (suc n) f.1))
  body_list (call site spread g es) fs n f = lists (all_procedures body_of g n) _ _ _ (body_list g fs n f.0) (each_list es fs (n + procedures g) f.1)
  body_list (operation site which es) fs n f = each_list es fs n f
  body_list (new_cells cs e) fs n f = body_list e fs n f.1
  body_list (cell_get x) fs n f = refl
  body_list (cell_set x e) fs n f = body_list e fs n f

  each_list : (es : Trees) (fs : List ℕ) (n : ℕ) → FreshEach es fs → map procedure_of (all_of_each body_of es n) ≡ bodies.bodies_each es
  each_list no_trees fs n f = refl
  each_list (and_tree e es) fs n f = lists (all_procedures body_of e n) _ _ _ (body_list e fs n f.0) (each_list es fs (n + procedures e) f.1)

  lambdas_list : (ls : Lambdas) (n : ℕ) → FreshLambdas ls → map procedure_of (all_of_lambdas body_of ls n) ≡ bodies.bodies_lambdas ls
  lambdas_list no_lambdas n f = refl
  lambdas_list (and_lambda name x m rest e ls) n f =
      rw (one name x m rest e n [] f.0) (ap (λ l. bodies.procedure name x m rest e ∷ l)
      (lists (all_procedures body_of e (suc n)) _ _ _ (body_list e (fields_of x m e) (suc n) f.0.1) (lambdas_list ls (suc n + procedures e) f.1)))

form_list : (es : Trees) (n : ℕ) → FreshEach es [] → ClearEach es [] → flat_forms (closed_each es [] n) ≡ forms_in es
form_list no_trees n f c = refl
form_list (and_tree e es) n f c =
    rw (form_kept e n f.0 (none_within (free e) (free_within e [] c.0)), form_list es (n + procedures e) f.1 c.1) refl

-- ## Programs

module _ (p : Source) (fl : FreshLambdas p.library) (f : FreshEach p.forms []) where
  pub sites_kept : SameItems (from.sites_of p) (to.sites_of (closed_source p))
  sites_kept test = sites_counted test p fl f

  pub calls_kept : SameItems (from.call_sites_of p) (to.call_sites_of (closed_source p))
  calls_kept test =
      same_alone [] (λ a b. a ++ b) (count_by test) refl (λ a b. sum_by-append (λ x. cond (test x) 1 0) a b) (λ e. shapes.call_site_of (shape e)) shapes.call_site_of
      (λ e fs n f. ap (count_by test) (call_node e fs n f)) p fl f

  pub tests_kept : to.tests_of (closed_source p) ≡ from.tests_of p
  tests_kept = same_alone 0 (λ a b. a + b) (λ k. k) refl (λ a b. refl) (λ e. shapes.tests_in (shape e)) shapes.tests_in test_node p fl f

  pub dropped_kept : to.dropped_of (closed_source p) ≡ from.dropped_of p
  dropped_kept = same_alone 0 (λ a b. a + b) (λ k. k) refl (λ a b. refl) (λ e. shapes.dropped_in (shape e)) shapes.dropped_in dropped_node p fl f

  pub size_kept : to.program_size (closed_source p) ≡ from.program_size p
  size_kept =
      omega (
        arith,
        same_source 0 (λ a b. a + b) (λ k. k) refl (λ a b. refl) body_size (λ e. shapes.size_of (shape e)) shapes.size_of size_node p fl f,
        sizes_are (closed_source p).bodies,
        lambdas_size p.library 0,
        counts p.forms [] (procedures_lambdas p.library),
      )

  pub weight_kept : to.weight (closed_source p) ≡ from.weight p
  weight_kept =
      omega (
        arith,
        same_source 0 (λ a b. a + b) (λ k. k) refl (λ a b. refl) body_weight (λ e. weight_of (shape e)) weight_of weight_node p fl f,
        weights_are (closed_source p).bodies,
        lambdas_weight p.library 0,
        counts p.forms [] (procedures_lambdas p.library),
      )

  pub bodies_kept : map procedure_of (closed_source p).bodies ≡ procedures_in p
  bodies_kept = lists (all_of_lambdas body_of p.library 0) _ _ _ (lambdas_list p.library 0 fl) (each_list p.forms [] (procedures_lambdas p.library) f)

  pub forms_kept : ClearEach p.forms [] → flat_forms (closed_each p.forms [] (procedures_lambdas p.library)) ≡ forms_in p.forms
  forms_kept c = form_list p.forms (procedures_lambdas p.library) f c
