-- Each variable of a sound draft is in scope once the draft has its numbers, and the same variables are assigned.
use Rattle.std.proofs.Common.{◌≡◌, ℕ, ◌+◌, ◌||◌, Bool, true, false, List, [], Option, refl, ap, ◌∙◌, lt-ltb}
use Rattle.std.specs.Prelude.{nat_eq}
use Rattle.std.proofs.lemmas.Bool.{and_from}
use Rattle.sch_link_program.proofs.ProgramSize.{count_numbered}
use Rattle.sch_word.proofs.facts.Booleans.{or_same}
use Rattle.sch_lang.specs.Tree as tree
use Rattle.sch_lang.specs.Tree.{Expression, Expressions, count_lambdas}
use Rattle.sch_lang.specs.Variables as variables
use Rattle.sch_lang.specs.InScope.{in_scope, each_in_scope}
use Rattle.sch_names.specs.Scope.{VariableNames}
use Rattle.sch_sketch.specs.Draft.{Draft, Drafts, constant, symbol, literal, local, global, set_local, set_global, define, branch, sequence, bind, letrec, lambda, call, operation, no_drafts, and_draft, count}
use Rattle.sch_link_tables.specs.Assigned.{assigns, assigns_each, is_group}
use Rattle.sch_word.specs.values.Options.{rest_of}
use Rattle.sch_link_tables.specs.Numbered.{procedures_of, grouped, numbered, numbered_each}
use Rattle.sch_core.specs.SoundDrafts.{IsSound, AreSound}
use Rattle.sch_core.proofs.numbered.Groups.{AreLambdas, count_group, scope_group, assigns_group, group_lambdas}

scope_grouped : (g : Bool) (xs : Expressions) (x : Expression) (s n m : ℕ) → (g ≡ true → AreLambdas xs) → tree.count xs ≡ m →
    each_in_scope xs (n + m) ≡ true → in_scope x (n + m) ≡ true → in_scope (grouped g s xs x) n ≡ true
scope_grouped true xs x s n m h e p q =
    let c : count_lambdas (procedures_of xs) ≡ m = count_group xs (h refl) ∙ e in
    rw c (and_from _ _ (scope_group xs (n + m) (h refl) ∙ p) q)
scope_grouped false xs x s n m h e p q = rw e (and_from _ _ p q)

assigns_grouped : (g : Bool) (xs : Expressions) (x : Expression) (s m j : ℕ) (a b : Bool) → (g ≡ true → AreLambdas xs) → tree.count xs ≡ m →
    variables.assigns_each xs (j + m) ≡ a → variables.assigns x (j + m) ≡ b → variables.assigns (grouped g s xs x) j ≡ (a || b)
assigns_grouped true xs x s m j a b h e p q =
    let c : count_lambdas (procedures_of xs) ≡ m = count_group xs (h refl) ∙ e in
    rw c (or_same (assigns_group xs (j + m) (h refl) ∙ p) q)
assigns_grouped false xs x s m j a b h e p q = rw e (or_same p q)

module _ (own globals symbols : List (List ℕ)) where
  mutual
    scoped : (e : Draft) (v : Option (List ℕ)) (m s l : ℕ) → IsSound m e → in_scope (numbered own globals symbols v e s l) m ≡ true
    scoped (constant c) v m s l h = refl
    scoped (symbol x) v m s l h = refl
    scoped (literal d) v m s l h = refl
    scoped (local k) v m s l h = lt-ltb k m h
    scoped (global x) v m s l h = refl
    scoped (set_local k e) v m s l h = and_from _ _ (lt-ltb k m h.0) (scoped e _ m s l h.1)
    scoped (set_global x e) v m s l h = scoped e _ m s l h
    scoped (define x e) v m s l h = scoped e _ m s l h
    scoped (branch a b c) v m s l h = and_from _ _ (scoped a _ m s l h.0) (and_from _ _ (scoped b _ m _ _ h.1) (scoped c _ m _ _ h.2))
    scoped (sequence es) v m s l h = scoped_each es [] m s l h.1
    scoped (bind vs es e) v m s l h =
        and_from _ _ (scoped_each es vs m (s + 1) l h.1)
        (rw (count_numbered own globals symbols es vs (s + 1) l) (scoped e _ (m + count es) _ _ h.2))
    scoped (letrec vs p es e) v m s l h =
        scope_grouped (is_group p es e) _ _ s m (count es) (group_lambdas own globals symbols p es e vs _ l h.1) (count_numbered own globals symbols es vs _ l)
        (scoped_each es vs (m + count es) _ l h.2) (scoped e _ (m + count es) _ _ h.3)
    scoped (lambda n r e) v m s l h = scoped e _ (m + n) s l h.2
    scoped (call vs f es) v m s l h = and_from _ _ (scoped f _ m (s + 1) l h.1) (scoped_each es vs m _ _ h.2)
    scoped (operation p es) v m s l h = scoped_each es [] m (s + 1) l h.1

    pub scoped_each : (es : Drafts) (vs : VariableNames) (m s l : ℕ) → AreSound m es → each_in_scope (numbered_each own globals symbols vs es s l) m ≡ true
    scoped_each no_drafts vs m s l h = refl
    scoped_each (and_draft e es) vs m s l h = and_from _ _ (scoped e _ m s l h.0) (scoped_each es (rest_of vs) m _ _ h.1)

  mutual
    pub assigns_kept : (e : Draft) (v : Option (List ℕ)) (m s l j : ℕ) → IsSound m e → variables.assigns (numbered own globals symbols v e s l) j ≡ assigns e j
    assigns_kept (constant c) v m s l j h = refl
    assigns_kept (symbol x) v m s l j h = refl
    assigns_kept (literal d) v m s l j h = refl
    assigns_kept (local k) v m s l j h = refl
    assigns_kept (global x) v m s l j h = refl
    assigns_kept (set_local k e) v m s l j h = ap (λ b. nat_eq k j || b) (assigns_kept e _ m s l j h.1)
    assigns_kept (set_global x e) v m s l j h = assigns_kept e _ m s l j h
    assigns_kept (define x e) v m s l j h = assigns_kept e _ m s l j h
    assigns_kept (branch a b c) v m s l j h = or_same (assigns_kept a _ m s l j h.0) (or_same (assigns_kept b _ m _ _ j h.1) (assigns_kept c _ m _ _ j h.2))
    assigns_kept (sequence es) v m s l j h = assigns_each_kept es [] m s l j h.1
    assigns_kept (bind vs es e) v m s l j h =
        or_same (assigns_each_kept es vs m (s + 1) l j h.1)
        (rw (count_numbered own globals symbols es vs (s + 1) l) (assigns_kept e _ (m + count es) _ _ (j + count es) h.2))
    assigns_kept (letrec vs p es e) v m s l j h =
        assigns_grouped (is_group p es e) _ _ s (count es) j _ _ (group_lambdas own globals symbols p es e vs _ l h.1) (count_numbered own globals symbols es vs _ l)
        (assigns_each_kept es vs (m + count es) _ l (j + count es) h.2) (assigns_kept e _ (m + count es) _ _ (j + count es) h.3)
    assigns_kept (lambda n r e) v m s l j h = assigns_kept e _ (m + n) s l (j + n) h.2
    assigns_kept (call vs f es) v m s l j h = or_same (assigns_kept f _ m (s + 1) l j h.1) (assigns_each_kept es vs m _ _ j h.2)
    assigns_kept (operation p es) v m s l j h = assigns_each_kept es [] m (s + 1) l j h.1

    pub assigns_each_kept : (es : Drafts) (vs : VariableNames) (m s l j : ℕ) → AreSound m es → variables.assigns_each (numbered_each own globals symbols vs es s l) j ≡ assigns_each es j
    assigns_each_kept no_drafts vs m s l j h = refl
    assigns_each_kept (and_draft e es) vs m s l j h = or_same (assigns_kept e _ m s l j h.0) (assigns_each_kept es (rest_of vs) m _ _ j h.1)
