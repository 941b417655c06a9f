-- Each node of a sound draft has its parts once the draft has its numbers, and no variable of a group is assigned.
use Rattle.std.proofs.Common.{◌≡◌, ℕ, zero, suc, ◌+◌, ◌&&◌, ◌||◌, Bool, true, false, List, [], Option, refl, ◌∙◌, arith}
use Rattle.std.specs.Prelude.{not}
use Rattle.std.proofs.lemmas.Bool.{and_from}
use Rattle.std.proofs.Common.{eq-eqb}
use Rattle.sch_link_program.proofs.ProgramSize.{count_numbered}
use Rattle.sch_word.proofs.facts.Booleans.{and_parts}
use Rattle.sch_lang.specs.Tree as tree
use Rattle.sch_lang.specs.Tree.{Expression, Expressions, Lambdas, count_lambdas}
use Rattle.sch_lang.specs.Variables as variables
use Rattle.sch_lang.specs.Measures.{over, over_each}
use Rattle.sch_lang.specs.Valid.{shaped_here}
use Rattle.sch_lang.specs.Valid as valid
use Rattle.sch_names.specs.Scope.{VariableNames}
use Rattle.sch_sketch.specs.Draft.{Draft, Drafts, constant, symbol, literal, local, global, set_local, set_global, define, branch, sequence, bind, letrec, lambda, call, operation, no_drafts, and_draft, count}
use Rattle.sch_link_tables.specs.Assigned.{assigns, assigns_each, none_assigned, is_group}
use Rattle.sch_word.specs.values.Options.{rest_of}
use Rattle.sch_link_tables.specs.Numbered.{procedures_of, grouped, numbered, numbered_each}
use Rattle.sch_core.specs.SoundDrafts.{IsSound, AreSound}
use Rattle.sch_core.proofs.numbered.Groups.{AreLambdas, count_group, assigns_group, holds_group, group_lambdas}
use Rattle.sch_core.proofs.numbered.Scopes.{assigns_kept, assigns_each_kept}

-- ## Groups

none_more_kept : {a a' b b' c c' : Bool} → a ≡ a' → b ≡ b' → c ≡ c' → (not (a || b) && c) ≡ (not (a' || b') && c')
none_more_kept e f g = cc

none_assigned_kept : (n : ℕ) (ls : Lambdas) (x : Expression) (es : Drafts) (e : Draft) → ((j : ℕ) → variables.assigns_lambdas ls j ≡ assigns_each es j) →
    ((j : ℕ) → variables.assigns x j ≡ assigns e j) → valid.none_assigned n ls x ≡ none_assigned n es e
none_assigned_kept zero ls x es e f g = refl
none_assigned_kept (suc n) ls x es e f g = none_more_kept (f n) (g n) (none_assigned_kept n ls x es e f g)

group_unassigned : (p : Bool) (es : Drafts) (e : Draft) → is_group p es e ≡ true → none_assigned (count es) es e ≡ true
group_unassigned p es e g = (and_parts p _ g).1

shaped_grouped : (g : Bool) (xs : Expressions) (x : Expression) (s m : ℕ) (es : Drafts) (e : Draft) → (g ≡ true → AreLambdas xs) → tree.count xs ≡ m →
    (g ≡ true → none_assigned m es e ≡ true) → ((j : ℕ) → variables.assigns_each xs j ≡ assigns_each es j) → ((j : ℕ) → variables.assigns x j ≡ assigns e j) →
    over_each true (λ a b. a && b) shaped_here xs ≡ true → over true (λ a b. a && b) shaped_here x ≡ true →
    over true (λ a b. a && b) shaped_here (grouped g s xs x) ≡ true
shaped_grouped true xs x s m es e h c u f k p q =
    let d : count_lambdas (procedures_of xs) ≡ m = count_group xs (h refl) ∙ c in
    let a = none_assigned_kept m (procedures_of xs) x es e (λ j. assigns_group xs j (h refl) ∙ f j) k in
    and_from _ _ (rw d (a ∙ u refl)) (and_from _ _ (holds_group shaped_here xs (h refl) p) q)
shaped_grouped false xs x s m es e h c u f k p q = and_from _ _ p q

-- ## Nodes

module _ (own globals symbols : List (List ℕ)) where
  mutual
    shaped : (e : Draft) (v : Option (List ℕ)) (m s l : ℕ) → IsSound m e → over true (λ a b. a && b) shaped_here (numbered own globals symbols v e s l) ≡ true
    shaped (constant c) v m s l h = refl
    shaped (symbol x) v m s l h = refl
    shaped (literal d) v m s l h = refl
    shaped (local k) v m s l h = refl
    shaped (global x) v m s l h = refl
    shaped (set_local k e) v m s l h = shaped e _ m s l h.1
    shaped (set_global x e) v m s l h = shaped e _ m s l h
    shaped (define x e) v m s l h = shaped e _ m s l h
    shaped (branch a b c) v m s l h = and_from _ _ (shaped a _ m s l h.0) (and_from _ _ (shaped b _ m _ _ h.1) (shaped c _ m _ _ h.2))
    shaped (sequence no_drafts) v m s l h = absurd (omega (arith, h.0))
    shaped (sequence (and_draft e es)) v m s l h = shaped_each (and_draft e es) [] m s l h.1
    shaped (bind vs es e) v m s l h = and_from _ _ (shaped_each es vs m (s + 1) l h.1) (shaped e _ (m + count es) _ _ h.2)
    shaped (letrec vs p es e) v m s l h =
        shaped_grouped (is_group p es e) _ _ s (count es) es e (group_lambdas own globals symbols p es e vs _ l h.1) (count_numbered own globals symbols es vs _ l)
        (group_unassigned p es e) (λ j. assigns_each_kept own globals symbols es vs (m + count es) _ l j h.2)
        (λ j. assigns_kept own globals symbols e _ (m + count es) _ _ j h.3)
        (shaped_each es vs (m + count es) _ l h.2) (shaped e _ (m + count es) _ _ h.3)
    shaped (lambda n r e) v m s l h = shaped e _ (m + n) s l h.2
    shaped (call vs f es) v m s l h = and_from _ _ (shaped f _ m (s + 1) l h.1) (shaped_each es vs m _ _ h.2)
    shaped (operation p es) v m s l h =
        and_from _ _ (eq-eqb _ _ (count_numbered own globals symbols es [] (s + 1) l ∙ h.0)) (shaped_each es [] m (s + 1) l h.1)

    pub shaped_each : (es : Drafts) (vs : VariableNames) (m s l : ℕ) → AreSound m es → over_each true (λ a b. a && b) shaped_here (numbered_each own globals symbols vs es s l) ≡ true
    shaped_each no_drafts vs m s l h = refl
    shaped_each (and_draft e es) vs m s l h = and_from _ _ (shaped e _ m s l h.0) (shaped_each es (rest_of vs) m _ _ h.1)
