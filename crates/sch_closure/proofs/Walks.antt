-- The bodies that the walk makes are those that stand in the definitions.
use Rattle.std.proofs.Common.{◌≡◌, ℕ, suc, ◌+◌, List, [], ◌∷◌, ◌++◌, length, refl, sym, ap, ◌∙◌, arith, append_assoc, append-nil, length-append}
use Rattle.std.specs.Prelude.{slice_set}
use Rattle.sch_cells.specs.Tree.{Tree, Trees, Lambdas, constant, literal, variable, global, set_variable, set_global, define, branch, sequence, bind, fix, letrec, lambda, call, operation, new_cells, cell_get, cell_set, no_trees, and_tree, no_lambdas, and_lambda}
use Rattle.sch_flat.specs.Tree.{Body}
use Rattle.sch_closure.specs.Closed.{procedures, procedures_each, procedures_lambdas, body_of, all_procedures, all_of_each, all_of_lambdas}
use Rattle.sch_closure.specs.Walked.{with_bodies, with_bodies_each, with_bodies_lambdas}
use Rattle.sch_closure.proofs.Standing.{size, size_each, size_lambdas}

-- What is made of one part and then of another, after what was made before.
both : (d xs : List Body) (ys : ℕ → List Body) (k : ℕ) (d' d'' : List Body) → d' ≡ d ++ xs → length xs ≡ k → d'' ≡ d' ++ ys (length d') → d'' ≡ d ++ (xs ++ ys (length d + k))
both d xs ys k d' d'' p l q =
    let m : length d' ≡ length d + k = ap length p ∙ length-append d xs ∙ ap (λ j. length d + j) l in
    q ∙ ap (λ j. d' ++ ys j) m ∙ ap (λ r. r ++ ys (length d + k)) p ∙ append_assoc d xs (ys (length d + k))

-- a procedure and then what is inside it
first : (d : List Body) (b : Body) (ys : ℕ → List Body) (d'' : List Body) → d'' ≡ (d ++ b ∷ []) ++ ys (length (d ++ b ∷ [])) → d'' ≡ d ++ (b ∷ ys (suc (length d)))
first d b ys d'' q =
    let m : length (d ++ b ∷ []) ≡ suc (length d) = omega (arith, length-append d (b ∷ [])) in
    q ∙ ap (λ j. (d ++ b ∷ []) ++ ys j) m ∙ append_assoc d (b ∷ []) (ys (suc (length d)))

mutual
  pub bodies_are : (e : Tree) (d : List Body) → with_bodies e d ≡ d ++ all_procedures body_of e (length d)
  bodies_are (constant c) d = sym (append-nil d)
  bodies_are (literal k) d = sym (append-nil d)
  bodies_are (variable x) d = sym (append-nil d)
  bodies_are (global g) d = sym (append-nil d)
  bodies_are (set_variable x e) d = bodies_are e d
  bodies_are (set_global g e) d = bodies_are e d
  bodies_are (define g e) d = bodies_are e d
  bodies_are (branch a b c) d =
      let n = length d in
      let ab = both d (all_procedures body_of a n) (all_procedures body_of b) (procedures a) (with_bodies a d) (with_bodies b (with_bodies a d)) (bodies_are a d) (size body_of a n)
      (bodies_are b (with_bodies a d)) in
      let l : length (all_procedures body_of a n ++ all_procedures body_of b (n + procedures a)) ≡ procedures a + procedures b =
      omega (arith, length-append (all_procedures body_of a n) (all_procedures body_of b (n + procedures a)), size body_of a n, size body_of b (n + procedures a)) in
      let p : n + (procedures a + procedures b) ≡ n + procedures a + procedures b = omega arith in
      both d (all_procedures body_of a n ++ all_procedures body_of b (n + procedures a)) (all_procedures body_of c) (procedures a + procedures b) (with_bodies b (with_bodies a d))
      (with_bodies c (with_bodies b (with_bodies a d))) ab l (bodies_are c (with_bodies b (with_bodies a d)))
      ∙ ap (λ j. d ++ ((all_procedures body_of a n ++ all_procedures body_of b (n + procedures a)) ++ all_procedures body_of c j)) p
      ∙ ap (λ r. d ++ r) (append_assoc (all_procedures body_of a n) (all_procedures body_of b (n + procedures a)) (all_procedures body_of c (n + procedures a + procedures b)))
  bodies_are (sequence es) d = each_bodies es d
  bodies_are (bind site x es e) d = both d _ (all_procedures body_of e) (procedures_each es) _ _ (each_bodies es d) (size_each body_of es (length d)) (bodies_are e (with_bodies_each es d))
  bodies_are (letrec site x es e) d = both d _ (all_procedures body_of e) (procedures_each es) _ _ (each_bodies es d) (size_each body_of es (length d)) (bodies_are e (with_bodies_each es d))
  bodies_are (fix x ls e) d = both d _ (all_procedures body_of e) (procedures_lambdas ls) _ _ (lambdas_bodies ls d) (size_lambdas body_of ls (length d)) (bodies_are e (with_bodies_lambdas ls d))
  bodies_are (lambda name x m rest e) d = let b = body_of name x m rest e (length d) in first d b (all_procedures body_of e) _ (bodies_are e (d ++ b ∷ []))
  bodies_are (call site spread f es) d = both d _ (all_of_each body_of es) (procedures f) _ _ (bodies_are f d) (size body_of f (length d)) (each_bodies es (with_bodies f d))
  bodies_are (operation site which es) d = each_bodies es d
  bodies_are (new_cells cs e) d = bodies_are e d
  bodies_are (cell_get x) d = sym (append-nil d)
  bodies_are (cell_set x e) d = bodies_are e d

  pub each_bodies : (es : Trees) (d : List Body) → with_bodies_each es d ≡ d ++ all_of_each body_of es (length d)
  each_bodies no_trees d = sym (append-nil d)
  each_bodies (and_tree e es) d = both d _ (all_of_each body_of es) (procedures e) _ _ (bodies_are e d) (size body_of e (length d)) (each_bodies es (with_bodies e d))

  pub lambdas_bodies : (ls : Lambdas) (d : List Body) → with_bodies_lambdas ls d ≡ d ++ all_of_lambdas body_of ls (length d)
  lambdas_bodies no_lambdas d = sym (append-nil d)
  lambdas_bodies (and_lambda name x m rest e ls) d =
      let b = body_of name x m rest e (length d) in
      let inner = first d b (all_procedures body_of e) _ (bodies_are e (d ++ b ∷ [])) in
      both d (b ∷ all_procedures body_of e (suc (length d))) (all_of_lambdas body_of ls) (suc (procedures e)) _ _ inner (ap suc (size body_of e (suc (length d))))
      (lambdas_bodies ls (with_bodies e (d ++ b ∷ [])))
      ∙ ap (λ j. d ++ (b ∷ (all_procedures body_of e (suc (length d)) ++ all_of_lambdas body_of ls j))) (omega arith)

-- A body that stands for another until that is made.
set_first : (d ys : List Body) (b c : Body) → slice_set ((d ++ b ∷ []) ++ ys) (length d) c ≡ (d ++ c ∷ []) ++ ys
set_first [] ys b c = refl
set_first (a ∷ d) ys b c = ap (λ l. a ∷ l) (set_first d ys b c)

pub body_set : (e : Tree) (d : List Body) (b c : Body) → slice_set (with_bodies e (d ++ b ∷ [])) (length d) c ≡ with_bodies e (d ++ c ∷ [])
body_set e d b c =
    let l : length (d ++ b ∷ []) ≡ length (d ++ c ∷ []) = omega (arith, length-append d (b ∷ []), length-append d (c ∷ [])) in
    ap (λ r. slice_set r (length d) c) (bodies_are e (d ++ b ∷ []))
    ∙ set_first d (all_procedures body_of e (length (d ++ b ∷ []))) b c
    ∙ ap (λ j. (d ++ c ∷ []) ++ all_procedures body_of e j) l
    ∙ sym (bodies_are e (d ++ c ∷ []))
