-- A form has nothing to save as it begins: nothing is bound before it, and it does not return.
use Rattle.std.proofs.Common.{◌≡◌, ℕ, Bool, true, false, List, [], ◌∷◌, refl, ap, sym, ◌∙◌, inl, inr}
use Rattle.std.specs.Prelude.{nat_eq, ◌||◌}
use Rattle.std.specs.Bool.{MatchBool}
use Rattle.std.proofs.lemmas.Bool.{eq-eqb, ne_eqb}
use Rattle.sch_word.specs.trees.NumberSets.{has}
use Rattle.sch_word.proofs.facts.Booleans.{and_left, and_right, false_true, or_left, or_right}
use Rattle.sch_control.specs.AtomsAndSites.{application_atoms, member_atoms, operation_atoms}
use Rattle.sch_control.specs.Tree.{Expression, perform, bind, sequence, branch, fix, call, tail_call, return, end, save}
use Rattle.sch_control.specs.Valid.{Position, value, no_call, form_end, ends_form, ends_procedure, in_scope, in_scope_atoms, positioned, with_members, with_variable}
use Rattle.sch_control.specs.flow.Live.{Across, Live, known}
use Rattle.sch_control.proofs.Results.{after_result}
use Rattle.sch_paths.proofs.saves.LiveInScope.{outer_scope, mentioned}

-- what is live where no procedure ends is in scope
form_scope : (e : Expression) (at : Position) → positioned e at ≡ true → ends_procedure at ≡ false → (scope : ℕ → Bool) → in_scope e scope ≡ true
    → (x : ℕ) (L : Bool → Type 0) → ((t : Bool) → L t → scope x ≡ true) → Live x e L → scope x ≡ true
form_scope (perform o) at p q scope i x L f (inl m) = mentioned scope (operation_atoms o) i x m
form_scope (perform o) at p q scope i x L f (inr l) = after_result (known o) L (scope x ≡ true) f l
form_scope (bind y a b) at p q scope i x L f l =
    form_scope a value (and_left (positioned a value) _ p) refl scope (and_left (in_scope a scope) _ i) x (λ t. Across y x (Live x b L))
    (λ t w.
    sym (ap (λ t. t || scope x) (ne_eqb x y w.0))
    ∙ form_scope b at (and_right (positioned a value) _ p) q (with_variable y scope) (and_right (in_scope a scope) _ i) x L (λ t l. or_right (nat_eq x y) _ (f t l)) w.1) l
form_scope (sequence a b) at p q scope i x L f l =
    form_scope a no_call (and_left (positioned a no_call) _ p) refl scope (and_left (in_scope a scope) _ i) x (λ t. Live x b L)
    (λ t. form_scope b at (and_right (positioned a no_call) _ p) q scope (and_right (in_scope a scope) _ i) x L f) l
form_scope (branch a b c) at p q scope i x L f l =
    let rest = and_right (in_scope a scope) _ i in
    let arms = and_right (positioned a value) _ p in
    form_scope a value (and_left (positioned a value) _ p) refl scope (and_left (in_scope a scope) _ i) x (λ t. MatchBool t (Live x b L) (Live x c L))
    (λ t. elim t as (λ t. MatchBool t (Live x b L) (Live x c L) → scope x ≡ true) [
      | true ↦ form_scope b at (and_left (positioned b at) _ arms) q scope (and_left (in_scope b scope) _ rest) x L f
      | false ↦ form_scope c at (and_right (positioned b at) _ arms) q scope (and_right (in_scope b scope) _ rest) x L f
    ]) l
form_scope (fix members e) at p q scope i x L f l =
    let inner : Bool = in_scope_atoms (with_members members scope) (member_atoms members) in
    let read : with_members members scope x ≡ true
    = elim l.1 [
      | inl m ↦ mentioned (with_members members scope) (member_atoms members) (and_left inner _ i) x m
      | inr at_e ↦ form_scope e at p q (with_members members scope) (and_right inner _ i) x L (λ t w. outer_scope members scope x l.0 ∙ f t w) at_e
    ] in
    sym (outer_scope members scope x l.0) ∙ read
form_scope (call a listed) at p q scope i x L f (inl m) = mentioned scope (application_atoms a) i x m
form_scope (call a listed) at p q scope i x L f (inr (inl l)) = f true l
form_scope (call a listed) at p q scope i x L f (inr (inr l)) = f false l
form_scope (tail_call a) at p q scope i x L f l = absurd (false_true p q)
form_scope (return e) at p q scope i x L f l = absurd (false_true (and_left (ends_procedure at) _ p) q)
form_scope (end e) at p q scope i x L f l = form_scope e value (and_right (ends_form at) _ p) refl scope i x (λ t. ⊥) (λ t b. absurd b) l
form_scope (save saves e) at p q scope i x L f l = form_scope e at p q scope i x L f l

none_there : (xs : List ℕ) → ((x : ℕ) → has x xs ≡ true → ⊥) → xs ≡ []
none_there [] f = refl
none_there (x ∷ xs) f = absurd (f x (or_left (nat_eq x x) _ (eq-eqb x x refl)))

-- as a form begins nothing is live
pub form_begins : (e : Expression) → positioned e form_end ≡ true → in_scope e (λ x. false) ≡ true → (x : ℕ) → Live x e (λ t. ⊥) → ⊥
form_begins e p i x l = false_true (form_scope e form_end p refl (λ x. false) i x (λ t. ⊥) (λ t b. absurd b) l) refl

pub nothing_saved : (xs : List ℕ) (e : Expression) → positioned e form_end ≡ true → in_scope e (λ x. false) ≡ true → ((x : ℕ) → has x xs ≡ true → Live x e (λ t. ⊥)) → xs ≡ []
nothing_saved xs e p i f = none_there xs (λ x h. form_begins e p i x (f x h))
