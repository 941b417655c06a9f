-- Each node of a sound draft is within the limits once the draft has its numbers, where its procedures have few variables;
-- and the draft keeps its levels.
use Rattle.std.proofs.Common.{◌≡◌, ◌≤◌, ℕ, ◌+◌, ◌&&◌, ◌||◌, Bool, true, false, List, [], length, Option, None, refl, ap, sym, ◌∙◌, arith, le-leb}
use Rattle.std.specs.Prelude.{max, not, nat_le}
use Rattle.std.proofs.lemmas.Bool.{and_from}
use Rattle.sch_link_program.proofs.ProgramSize.{count_numbered}
use Rattle.sch_word.proofs.facts.Booleans.{and_parts}
use Rattle.sch_word.specs.declared.primitive.Primitive.{Primitive}
use Rattle.sch_word.specs.values.Primitives.{operands_of}
use Rattle.sch_word.specs.trees.Shape.{Procedure, max_operands}
use Rattle.sch_lang.specs.Tree as tree
use Rattle.sch_lang.specs.Tree.{Expression, Expressions}
use Rattle.sch_lang.specs.Measures as measures
use Rattle.sch_lang.specs.Measures.{over, over_each, procedure}
use Rattle.sch_lang.specs.Valid.{fits_here}
use Rattle.sch_variable_counts.specs.Within.{each_procedure, each_procedure_in, few_variables, few_free, has_few_variables, has_few_free}
use Rattle.sch_names.specs.Scope.{VariableNames}
use Rattle.sch_sketch.specs.Draft.{Draft, Drafts, constant, symbol, literal, local, global, set_local, set_global, define, branch, sequence, bind, letrec, lambda, call, operation, no_drafts, and_draft, count}
use Rattle.sch_link_tables.specs.Assigned.{is_group}
use Rattle.sch_link_tables.specs.Sites.{widths}
use Rattle.sch_link_tables.specs.Quoted.{quotes_in}
use Rattle.sch_word.specs.values.Options.{rest_of}
use Rattle.sch_link_tables.specs.Numbered.{body_name, grouped, numbered, numbered_each}
use Rattle.sch_core.specs.SoundDrafts.{HasRest, IsSound, AreSound, levels, levels_each}
use Rattle.sch_core.proofs.numbered.Groups.{AreLambdas, count_group, levels_group, few_group, holds_group, fit_group, group_lambdas}

-- ## Few variables and few free ones

abbrev pub IsFew : Expression → Type 0
IsFew e = (few_variables e ≡ true) × (few_free e ≡ true)

abbrev pub AreFew : Expressions → Type 0
AreFew es = (each_procedure_in has_few_variables es ≡ true) × (each_procedure_in has_few_free es ≡ true)

first_of_two : (a b c d : Bool) → ((a && b) ≡ true) × ((c && d) ≡ true) → (a ≡ true) × (c ≡ true)
first_of_two a b c d h = ((and_parts _ _ h.0).0, (and_parts _ _ h.1).0)

second_of_two : (a b c d : Bool) → ((a && b) ≡ true) × ((c && d) ≡ true) → (b ≡ true) × (d ≡ true)
second_of_two a b c d h = ((and_parts _ _ h.0).1, (and_parts _ _ h.1).1)

parts_grouped : (test : Procedure → Bool) (g : Bool) (xs : Expressions) (x : Expression) (s : ℕ) → (g ≡ true → AreLambdas xs) →
    each_procedure test (grouped g s xs x) ≡ true → (each_procedure_in test xs ≡ true) × (each_procedure test x ≡ true)
parts_grouped test true xs x s h k = let a = and_parts _ _ k in (sym (few_group test xs (h refl)) ∙ a.0, a.1)
parts_grouped test false xs x s h k = and_parts _ _ k

few_grouped : (g : Bool) (xs : Expressions) (x : Expression) (s : ℕ) → (g ≡ true → AreLambdas xs) → IsFew (grouped g s xs x) → AreFew xs × IsFew x
few_grouped g xs x s h k =
    let a = parts_grouped has_few_variables g xs x s h k.0 in
    let b = parts_grouped has_few_free g xs x s h k.1 in
    ((a.0, b.0), (a.1, b.1))

few_lambda : (name : List ℕ) (n : ℕ) (r : Bool) (x : Expression) → IsFew (tree.lambda name n r x) →
    (has_few_variables (procedure name n r x) ≡ true) × (has_few_free (procedure name n r x) ≡ true) × IsFew x
few_lambda name n r x k =
    let a = and_parts (has_few_variables (procedure name n r x)) (few_variables x) k.0 in
    let b = and_parts (has_few_free (procedure name n r x)) (few_free x) k.1 in
    (a.0, b.0, (a.1, b.1))

-- ## Nodes

few_operands : (p : Primitive) → operands_of p ≤ 3
few_operands p = grind arith

rest_fits : (r : Bool) (n : ℕ) → HasRest r n → (not r || nat_le 1 n) ≡ true
rest_fits true n h = le-leb _ _ h
rest_fits false n h = refl

fit_grouped : (g : Bool) (xs : Expressions) (x : Expression) (s m : ℕ) → (g ≡ true → AreLambdas xs) → tree.count xs ≡ m → m ≤ max_operands →
    over_each true (λ a b. a && b) fits_here xs ≡ true → over true (λ a b. a && b) fits_here x ≡ true → over true (λ a b. a && b) fits_here (grouped g s xs x) ≡ true
fit_grouped true xs x s m h c f p q =
    and_from _ _ (and_from _ _ (le-leb _ _ (omega (arith, count_group xs (h refl), c, f))) (fit_group xs (h refl) p))
    (and_from _ _ (holds_group fits_here xs (h refl) p) q)
fit_grouped false xs x s m h c f p q = and_from _ _ (le-leb _ _ (omega (arith, c, f))) (and_from _ _ p q)

module _ (own globals symbols : List (List ℕ)) where
  mutual
    fitting : (e : Draft) (v : Option (List ℕ)) (m s l : ℕ) → IsSound m e → IsFew (numbered own globals symbols v e s l) →
        over true (λ a b. a && b) fits_here (numbered own globals symbols v e s l) ≡ true
    fitting (constant c) v m s l h k = refl
    fitting (symbol x) v m s l h k = refl
    fitting (literal d) v m s l h k = refl
    fitting (local i) v m s l h k = refl
    fitting (global x) v m s l h k = refl
    fitting (set_local i e) v m s l h k = fitting e _ m s l h.1 k
    fitting (set_global x e) v m s l h k = fitting e _ m s l h k
    fitting (define x e) v m s l h k = fitting e _ m s l h k
    fitting (branch a b c) v m s l h k =
        let k' = second_of_two _ _ _ _ k in
        and_from _ _ (fitting a _ m s l h.0 (first_of_two _ _ _ _ k)) (and_from _ _ (fitting b _ m _ _ h.1 (first_of_two _ _ _ _ k')) (fitting c _ m _ _ h.2 (second_of_two _ _ _ _ k')))
    fitting (sequence es) v m s l h k = fitting_each es [] m s l h.1 k
    fitting (bind vs es e) v m s l h k =
        and_from _ _ (le-leb _ _ (omega (arith, count_numbered own globals symbols es vs (s + 1) l, h.0)))
        (and_from _ _ (fitting_each es vs m (s + 1) l h.1 (first_of_two _ _ _ _ k)) (fitting e _ (m + count es) _ _ h.2 (second_of_two _ _ _ _ k)))
    fitting (letrec vs p es e) v m s l h k =
        let g = group_lambdas own globals symbols p es e vs _ l h.1 in
        let f = few_grouped (is_group p es e) _ _ s g k in
        fit_grouped (is_group p es e) _ _ s (count es) g (count_numbered own globals symbols es vs _ l) h.0
        (fitting_each es vs (m + count es) _ l h.2 f.0) (fitting e _ (m + count es) _ _ h.3 f.1)
    fitting (lambda n r e) v m s l h k =
        let f = few_lambda (body_name v) n r (numbered own globals symbols None e s l) k in
        and_from _ _ (and_from _ _ (rest_fits r n h.0) (and_from _ _ (le-leb _ _ h.1) (and_from _ _ f.0 f.1))) (fitting e None (m + n) s l h.2 f.2)
    fitting (call vs f es) v m s l h k =
        and_from _ _ (le-leb _ _ (omega (arith, count_numbered own globals symbols es vs (s + 1 + length (widths f)) (l + length (quotes_in f)), h.0)))
        (and_from _ _ (fitting f _ m (s + 1) l h.1 (first_of_two _ _ _ _ k)) (fitting_each es vs m _ _ h.2 (second_of_two _ _ _ _ k)))
    fitting (operation p es) v m s l h k =
        and_from _ _ (le-leb _ _ (omega (arith, count_numbered own globals symbols es [] (s + 1) l, h.0, few_operands p))) (fitting_each es [] m (s + 1) l h.1 k)

    pub fitting_each : (es : Drafts) (vs : VariableNames) (m s l : ℕ) → AreSound m es → AreFew (numbered_each own globals symbols vs es s l) →
        over_each true (λ a b. a && b) fits_here (numbered_each own globals symbols vs es s l) ≡ true
    fitting_each no_drafts vs m s l h k = refl
    fitting_each (and_draft e es) vs m s l h k = and_from _ _ (fitting e _ m s l h.0 (first_of_two _ _ _ _ k)) (fitting_each es (rest_of vs) m _ _ h.1 (second_of_two _ _ _ _ k))

-- ## Levels

two_levels : {a b c d : ℕ} → a ≡ b → c ≡ d → max a c ≡ max b d
two_levels e f = cc

levels_grouped : (g : Bool) (xs : Expressions) (x : Expression) (s a b : ℕ) → (g ≡ true → AreLambdas xs) →
    measures.levels_each xs ≡ a → measures.levels x ≡ b → measures.levels (grouped g s xs x) ≡ 1 + max a b
levels_grouped true xs x s a b h p q = ap (λ k. 1 + k) (two_levels (levels_group xs (h refl) ∙ p) q)
levels_grouped false xs x s a b h p q = ap (λ k. 1 + k) (two_levels p q)

module _ (own globals symbols : List (List ℕ)) where
  mutual
    levels_kept : (e : Draft) (v : Option (List ℕ)) (m s l : ℕ) → IsSound m e → measures.levels (numbered own globals symbols v e s l) ≡ levels e
    levels_kept (constant c) v m s l h = refl
    levels_kept (symbol x) v m s l h = refl
    levels_kept (literal d) v m s l h = refl
    levels_kept (local k) v m s l h = refl
    levels_kept (global x) v m s l h = refl
    levels_kept (set_local k e) v m s l h = ap (λ k. 1 + k) (levels_kept e _ m s l h.1)
    levels_kept (set_global x e) v m s l h = ap (λ k. 1 + k) (levels_kept e _ m s l h)
    levels_kept (define x e) v m s l h = ap (λ k. 1 + k) (levels_kept e _ m s l h)
    levels_kept (branch a b c) v m s l h =
        ap (λ k. 1 + k) (two_levels (levels_kept a _ m s l h.0) (two_levels (levels_kept b _ m _ _ h.1) (levels_kept c _ m _ _ h.2)))
    levels_kept (sequence es) v m s l h = ap (λ k. 1 + k) (levels_each_kept es [] m s l h.1)
    levels_kept (bind vs es e) v m s l h =
        ap (λ k. 1 + k) (two_levels (levels_each_kept es vs m (s + 1) l h.1) (levels_kept e _ (m + count es) _ _ h.2))
    levels_kept (letrec vs p es e) v m s l h =
        levels_grouped (is_group p es e) _ _ s _ _ (group_lambdas own globals symbols p es e vs _ l h.1)
        (levels_each_kept es vs (m + count es) _ l h.2) (levels_kept e _ (m + count es) _ _ h.3)
    levels_kept (lambda n r e) v m s l h = ap (λ k. 1 + k) (levels_kept e _ (m + n) s l h.2)
    levels_kept (call vs f es) v m s l h = ap (λ k. 1 + k) (two_levels (levels_kept f _ m (s + 1) l h.1) (levels_each_kept es vs m _ _ h.2))
    levels_kept (operation p es) v m s l h = ap (λ k. 1 + k) (levels_each_kept es [] m (s + 1) l h.1)

    pub levels_each_kept : (es : Drafts) (vs : VariableNames) (m s l : ℕ) → AreSound m es → measures.levels_each (numbered_each own globals symbols vs es s l) ≡ levels_each es
    levels_each_kept no_drafts vs m s l h = refl
    levels_each_kept (and_draft e es) vs m s l h = two_levels (levels_kept e _ m s l h.0) (levels_each_kept es (rest_of vs) m _ _ h.1)
