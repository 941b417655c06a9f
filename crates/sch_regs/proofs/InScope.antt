-- An expression with what is in scope before it, and its parts.
use Rattle.std.proofs.Common.{◌≡◌, ◌≢◌, ℕ, Bool, true, false, List, ◌++◌, ap, sym, ◌∙◌, inl, inr}
use Rattle.std.specs.Prelude.{nat_eq, ◌||◌, not}
use Rattle.std.specs.Bool.{MatchBool}
use Rattle.std.proofs.lemmas.Bool.{ne_eqb}
use Rattle.sch_word.specs.trees.NumberSets.{has, without_repeats}
use Rattle.sch_word.proofs.facts.Booleans.{and_left, and_right, or_left, or_right, not_right, not_true, never_true}
use Rattle.sch_word.proofs.facts.NumberSets.{has_append, distinct_left, distinct_right}
use Rattle.sch_control.specs.declared.operation.Member.{Member}
use Rattle.sch_control.specs.AtomsAndSites.{member_atoms}
use Rattle.sch_control.specs.Meaning.{binds}
use Rattle.sch_control.specs.Tree.{Expression, bind, sequence, branch, fix, return, end, save}
use Rattle.sch_control.specs.Valid.{with_variable, with_members, in_scope_atoms, in_scope, member_variables, bound_in}
use Rattle.sch_control.specs.flow.Apart.{Around}
use Rattle.sch_control.specs.flow.Live.{Across, Live, Later}
use Rattle.sch_paths.proofs.saves.LiveInScope.{Unbound, live_scope, repeats_apart, one_more, more_scope, outer_scope, binds_is, mentioned}
use Rattle.sch_paths.specs.Laws.{Readable}

-- what is read is in scope, and what is bound is bound once and is not in scope before
pub record Sits (e : Expression) (scope : ℕ → Bool) : Type 0 where
  pub scoped : in_scope e scope ≡ true
  pub once : without_repeats (bound_in e) ≡ true
  pub unbound : Unbound scope e

-- what is live behind is in scope
abbrev pub Back : (scope : ℕ → Bool) → Later → Type 0
Back scope L = (x : ℕ) (t : Bool) → L x t → Readable scope x

pub not_bound : {e : Expression} {scope : ℕ → Bool} → Sits e scope → (x : ℕ) → Readable scope x → has x (bound_in e) ≡ false
not_bound {e} s x r = never_true (has x (bound_in e)) (λ h. s.unbound x h r)

pub not_binds : {e : Expression} {scope : ℕ → Bool} → Sits e scope → (x : ℕ) → Readable scope x → binds x e ≡ false
not_binds {e} s x r = binds_is x e ∙ not_bound s x r

pub reads : {e : Expression} {scope : ℕ → Bool} → Sits e scope → (L : Later) → Back scope L → (x : ℕ) → Live x e (L x) → Readable scope x
reads {e} {scope} s L f x l = live_scope e scope s.scoped x (L x) (f x) l

-- ## Bindings

module _ (y : ℕ) (a b : Expression) (scope : ℕ → Bool) (s : Sits (bind y a b) scope) where
  pub bind_once : has y (bound_in a ++ bound_in b) ≡ false
  bind_once = not_true (has y (bound_in a ++ bound_in b)) (and_left (not (has y (bound_in a ++ bound_in b))) _ s.once)

  pub bind_first : Sits a scope
  bind_first = record {
    scoped = and_left (in_scope a scope) _ s.scoped;
    once = distinct_left (bound_in a) (bound_in b) (and_right (not (has y (bound_in a ++ bound_in b))) _ s.once);
    unbound = λ x h. s.unbound x (or_right (nat_eq x y) _ (has_append x (bound_in a) (bound_in b) ∙ or_left (has x (bound_in a)) _ h));
  }

  pub bind_second : Sits b (with_variable y scope)
  bind_second = record {
    scoped = and_right (in_scope a scope) _ s.scoped;
    once = distinct_right (bound_in a) (bound_in b) (and_right (not (has y (bound_in a ++ bound_in b))) _ s.once);
    unbound = λ x h. one_more scope y x (bound_in b) h (not_right (has y (bound_in a)) _ (sym (has_append y (bound_in a) (bound_in b)) ∙ bind_once))
        (s.unbound x (or_right (nat_eq x y) _ (has_append x (bound_in a) (bound_in b) ∙ or_right (has x (bound_in a)) _ h)));
  }

  -- what the second binds is not bound in the first
  pub bind_apart : (x : ℕ) → has x (bound_in a) ≡ true → has x (bound_in b) ≡ false
  bind_apart x h = never_true (has x (bound_in b)) (repeats_apart (bound_in a) (bound_in b) (and_right (not (has y (bound_in a ++ bound_in b))) _ s.once) x h)

pub back_more : (scope : ℕ → Bool) (y : ℕ) (L : Later) → Back scope L → Back (with_variable y scope) L
back_more scope y L f x t l = elim (f x t l) [ inl e ↦ inl e | inr s ↦ inr (or_right (nat_eq x y) _ s) ]

-- another variable that is readable behind a binding is so before it
pub before_it : (scope : ℕ → Bool) (x y : ℕ) → x ≢ y → Readable (with_variable y scope) x → Readable scope x
before_it scope x y n (inl e) = inl e
before_it scope x y n (inr s) = inr (sym (ap (λ t. t || scope x) (ne_eqb x y n)) ∙ s)

pub back_bind : (y : ℕ) (b : Expression) (scope : ℕ → Bool) (L : Later) → Sits b (with_variable y scope) → Back scope L → Back scope (λ x t. Across y x (Live x b (L x)))
back_bind y b scope L s f x t w = before_it scope x y w.0 (reads s L (back_more scope y L f) x w.1)

-- ## Sequences

module _ (a b : Expression) (scope : ℕ → Bool) (s : Sits (sequence a b) scope) where
  pub seq_first : Sits a scope
  seq_first = record {
    scoped = and_left (in_scope a scope) _ s.scoped;
    once = distinct_left (bound_in a) (bound_in b) s.once;
    unbound = λ x h. s.unbound x (has_append x (bound_in a) (bound_in b) ∙ or_left (has x (bound_in a)) _ h);
  }

  pub seq_second : Sits b scope
  seq_second = record {
    scoped = and_right (in_scope a scope) _ s.scoped;
    once = distinct_right (bound_in a) (bound_in b) s.once;
    unbound = λ x h. s.unbound x (has_append x (bound_in a) (bound_in b) ∙ or_right (has x (bound_in a)) _ h);
  }

  pub seq_apart : (x : ℕ) → has x (bound_in a) ≡ true → has x (bound_in b) ≡ false
  seq_apart x h = never_true (has x (bound_in b)) (repeats_apart (bound_in a) (bound_in b) s.once x h)

-- ## Branches

module _ (a b c : Expression) (scope : ℕ → Bool) (s : Sits (branch a b c) scope) where
  pub branch_first : Sits a scope
  branch_first = record {
    scoped = and_left (in_scope a scope) _ s.scoped;
    once = distinct_left (bound_in a) (bound_in b ++ bound_in c) s.once;
    unbound = λ x h. s.unbound x (has_append x (bound_in a) (bound_in b ++ bound_in c) ∙ or_left (has x (bound_in a)) _ h);
  }

  arms : Sits (sequence b c) scope
  arms = record {
    scoped = and_right (in_scope a scope) _ s.scoped;
    once = distinct_right (bound_in a) (bound_in b ++ bound_in c) s.once;
    unbound = λ x h. s.unbound x (has_append x (bound_in a) (bound_in b ++ bound_in c) ∙ or_right (has x (bound_in a)) _ h);
  }

  pub branch_second : Sits b scope
  branch_second = seq_first b c scope arms

  pub branch_third : Sits c scope
  branch_third = seq_second b c scope arms

  pub arms_apart : (x : ℕ) → has x (bound_in b) ≡ true → has x (bound_in c) ≡ false
  arms_apart = seq_apart b c scope arms

  pub branch_apart : (x : ℕ) → has x (bound_in a) ≡ true → has x (bound_in b ++ bound_in c) ≡ false
  branch_apart x h = never_true (has x (bound_in b ++ bound_in c)) (repeats_apart (bound_in a) (bound_in b ++ bound_in c) s.once x h)

  pub back_branch : (L : Later) → Back scope L → Back scope (λ x t. MatchBool t (Live x b (L x)) (Live x c (L x)))
  back_branch L f x t = elim t as (λ t. MatchBool t (Live x b (L x)) (Live x c (L x)) → Readable scope x) [
    | true ↦ reads branch_second L f x
    | false ↦ reads branch_third L f x
  ]

-- ## Groups

module _ (members : List (Member ℕ)) (e : Expression) (scope : ℕ → Bool) (s : Sits (fix members e) scope) where
  pub fix_apart : (x : ℕ) → has x (member_variables members) ≡ true → has x (bound_in e) ≡ false
  fix_apart x m = never_true (has x (bound_in e)) (repeats_apart (member_variables members) (bound_in e) s.once x m)

  fix_outer : (x : ℕ) → has x (bound_in e) ≡ true → has x (member_variables members) ≡ false
  fix_outer x h = never_true (has x (member_variables members)) (λ m. repeats_apart (member_variables members) (bound_in e) s.once x m h)

  pub members_once : without_repeats (member_variables members) ≡ true
  members_once = distinct_left (member_variables members) (bound_in e) s.once

  pub fix_inner : Sits e (with_members members scope)
  fix_inner = record {
    scoped = and_right (in_scope_atoms (with_members members scope) (member_atoms members)) _ s.scoped;
    once = distinct_right (member_variables members) (bound_in e) s.once;
    unbound = λ x h w.
        s.unbound x (has_append x (member_variables members) (bound_in e) ∙ or_right (has x (member_variables members)) _ h) (elim w [
          | inl z ↦ inl z
          | inr k ↦ inr (sym (outer_scope members scope x (fix_outer x h)) ∙ k)
        ]);
  }

  pub back_fix : (L : Later) → Back scope L → Back (with_members members scope) L
  back_fix L f x t l = elim (f x t l) [ inl z ↦ inl z | inr k ↦ inr (more_scope members scope x k) ]

  -- what is live as the members are in their places is in scope there
  pub members_read : (L : Later) → Back scope L → (x : ℕ) → Around members (λ x. Live x e (L x)) x → Readable (with_members members scope) x
  members_read L f x (inl m) =
      inr (mentioned (with_members members scope) (member_atoms members) (and_left (in_scope_atoms (with_members members scope) (member_atoms members)) _ s.scoped) x m)
  members_read L f x (inr l) = reads fix_inner L (back_fix L f) x l

-- ## The rest

pub as_return : {e : Expression} {scope : ℕ → Bool} → Sits (return e) scope → Sits e scope
as_return s = record { scoped = s.scoped; once = s.once; unbound = s.unbound }

pub as_end : {e : Expression} {scope : ℕ → Bool} → Sits (end e) scope → Sits e scope
as_end s = record { scoped = s.scoped; once = s.once; unbound = s.unbound }

pub as_save : {saves : List ℕ} {e : Expression} {scope : ℕ → Bool} → Sits (save saves e) scope → Sits e scope
as_save s = record { scoped = s.scoped; once = s.once; unbound = s.unbound }
