-- What is saved and restored does not depend on how the sets at calls are listed.
use Rattle.std.proofs.Common.{◌≡◌, ℕ, Bool, true, false, List, [], ◌∷◌, cond, refl, ap, sym, ◌∙◌, arith}
use Rattle.std.specs.Prelude.{◌&&◌, ◌||◌, nat_eq, nat_lt, not, filter}
use Rattle.std.proofs.Math.Path.{fun_ext}
use Rattle.sch_word.specs.trees.NumberSets.{has}
use Rattle.sch_word.specs.trees.Bindings.{numbers}
use Rattle.sch_control.specs.Meaning.{heads, no_region, with_region}
use Rattle.sch_control.specs.Tree.{Expression, perform, bind, sequence, branch, fix, call, tail_call, return, end, save}
use Rattle.sch_control.specs.flow.Bare.{unlisted}
use Rattle.sch_control.specs.flow.LiveTests.{is_soon, Behind}
use Rattle.sch_control.proofs.NumberLists.{below_from, has_filter, has_first, same_filter}
use Rattle.sch_live.specs.LiveListed.{in_order, lists_in_order}
use Rattle.sch_paths.specs.Table.{saved_by}
use Rattle.sch_paths.proofs.paths.UnlistedPaths.{heads_unlisted}
use Rattle.sch_restores.specs.Restores.{eager}
use Rattle.sch_saves.specs.LazyRegions.{lazily_saved, needed, outermost, round, with_needs}

module _ (n : ℕ) where
  -- of the first variables the same are listed
  has_in_order : (listed : List ℕ) (x : ℕ) → nat_lt x n ≡ true → has x (in_order n listed) ≡ has x listed
  has_in_order listed x lt =
      has_filter (λ x. has x listed) x (numbers 0 n) ∙ ap (λ t. t && has x listed) (has_first x n ∙ lt)

  -- a test of the first variables
  first_same : (f g : ℕ → Bool) → ((x : ℕ) → nat_lt x n ≡ true → f x ≡ g x) → filter f (numbers 0 n) ≡ filter g (numbers 0 n)
  first_same f g h = same_filter (λ x. nat_lt x n) f g (numbers 0 n) (below_from 0 n n (omega arith)) h

  -- ## Saves

  saved_same : (x : ℕ) → nat_lt x n ≡ true → (e : Expression) (r : Bool) → saved_by x (lists_in_order n e) r ≡ saved_by x e r
  saved_same x lt (perform o) r = refl
  saved_same x lt (bind y a b) r = rw (saved_same x lt a true, saved_same x lt a false, saved_same x lt b r) refl
  saved_same x lt (sequence a b) r = rw (saved_same x lt a true, saved_same x lt a false, saved_same x lt b r) refl
  saved_same x lt (branch a b c) r = rw (saved_same x lt a true, saved_same x lt a false, saved_same x lt b r, saved_same x lt c r) refl
  saved_same x lt (fix members e) r = saved_same x lt e r
  saved_same x lt (call a listed) r = has_in_order listed x lt
  saved_same x lt (tail_call a) r = refl
  saved_same x lt (return e) r = rw (saved_same x lt e true, saved_same x lt e false) refl
  saved_same x lt (end e) r = rw (saved_same x lt e true, saved_same x lt e false) refl
  saved_same x lt (save saves e) r = saved_same x lt e r

  needed_same : (e : Expression) → needed n (lists_in_order n e) ≡ needed n e
  needed_same e = first_same _ _ (λ x lt. rw (saved_same x lt e true, saved_same x lt e false) refl)

  round_same : (xs : List ℕ) (e : Expression) → round xs (lists_in_order n e) ≡ lists_in_order n (round xs e)
  round_same [] e = refl
  round_same (x ∷ xs) e = refl

  needs_same : (e : Expression) → with_needs n (lists_in_order n e) ≡ lists_in_order n (with_needs n e)
  needs_same (perform o) = refl
  needs_same (bind y a b) = rw (needs_same a, needs_same b) refl
  needs_same (sequence a b) = rw (needs_same a, needs_same b) refl
  needs_same (branch a b c) =
      rw (needs_same a, needed_same b, needs_same b, needed_same c, needs_same c, round_same (needed n b) (with_needs n b), round_same (needed n c) (with_needs n c)) refl
  needs_same (fix members e) = rw (needs_same e) refl
  needs_same (call a listed) = refl
  needs_same (tail_call a) = refl
  needs_same (return e) = rw (needs_same e) refl
  needs_same (end e) = rw (needs_same e) refl
  needs_same (save saves e) = needs_same e

  outermost_same : (inside : ℕ → Bool) (e : Expression) → outermost inside (lists_in_order n e) ≡ lists_in_order n (outermost inside e)
  outermost_same inside (perform o) = refl
  outermost_same inside (bind y a b) = rw (outermost_same inside a, outermost_same inside b) refl
  outermost_same inside (sequence a b) = rw (outermost_same inside a, outermost_same inside b) refl
  outermost_same inside (branch a b c) = rw (outermost_same inside a, outermost_same inside b, outermost_same inside c) refl
  outermost_same inside (fix members e) = rw (outermost_same inside e) refl
  outermost_same inside (call a listed) = refl
  outermost_same inside (tail_call a) = refl
  outermost_same inside (return e) = rw (outermost_same inside e) refl
  outermost_same inside (end e) = rw (outermost_same inside e) refl
  outermost_same inside (save saves e) =
      ap (round (filter (λ x. not (inside x)) saves)) (outermost_same (with_region saves inside) e)
      ∙ round_same (filter (λ x. not (inside x)) saves) (outermost (with_region saves inside) e)

  pub lazily_same : (e : Expression) → lazily_saved n (lists_in_order n e) ≡ lists_in_order n (lazily_saved n e)
  lazily_same e =
      ap (outermost no_region) (ap (λ xs. round xs (with_needs n (lists_in_order n e))) (needed_same e) ∙ (ap (round (needed n e)) (needs_same e) ∙ round_same (needed n e) (with_needs n e)))
      ∙ outermost_same no_region (round (needed n e) (with_needs n e))

  -- ## Restores

  bare_same : (e : Expression) → unlisted (lists_in_order n e) ≡ unlisted e
  bare_same (perform o) = refl
  bare_same (bind y a b) = rw (bare_same a, bare_same b) refl
  bare_same (sequence a b) = rw (bare_same a, bare_same b) refl
  bare_same (branch a b c) = rw (bare_same a, bare_same b, bare_same c) refl
  bare_same (fix members e) = rw (bare_same e) refl
  bare_same (call a listed) = refl
  bare_same (tail_call a) = refl
  bare_same (return e) = rw (bare_same e) refl
  bare_same (end e) = rw (bare_same e) refl
  bare_same (save saves e) = rw (bare_same e) refl

  soon_same : (x : ℕ) (e : Expression) (s : Bool → Bool) → is_soon x (lists_in_order n e) s ≡ is_soon x e s
  soon_same x (perform o) s = refl
  soon_same x (bind y a b) s =
      soon_same x a _ ∙ ap (λ z. is_soon x a (λ t. not (nat_eq x y) && z)) (soon_same x b s)
  soon_same x (sequence a b) s = soon_same x a _ ∙ ap (λ z. is_soon x a (λ t. z)) (soon_same x b s)
  soon_same x (branch a b c) s =
      soon_same x a _
      ∙ (ap (λ z. is_soon x a (λ t. cond t z (is_soon x (lists_in_order n c) s))) (soon_same x b s)
      ∙ ap (λ z. is_soon x a (λ t. cond t (is_soon x b s) z)) (soon_same x c s))
  soon_same x (fix members e) s = rw (soon_same x e s) refl
  soon_same x (call a listed) s = refl
  soon_same x (tail_call a) s = refl
  soon_same x (return e) s = soon_same x e (λ t. nat_eq x 0)
  soon_same x (end e) s = soon_same x e (λ t. false)
  soon_same x (save saves e) s =
      ap (λ z. has x (heads (lists_in_order n e) saves) || z) (soon_same x e s)
      ∙ ap (λ hs. has x hs || is_soon x e s)
      (sym (heads_unlisted (lists_in_order n e) saves) ∙ (ap (λ z. heads z saves) (bare_same e) ∙ heads_unlisted e saves))

  before_same : (e : Expression) (s : Behind) → ◌≡◌ {A = ℕ → Bool} (λ x. is_soon x (lists_in_order n e) (s x)) (λ x. is_soon x e (s x))
  before_same e s = fun_ext (λ x. soon_same x e (s x))

  pub restored_same : (inside : ℕ → Bool) (e : Expression) (s : Behind) → eager n inside (lists_in_order n e) s ≡ eager n inside e s
  restored_same inside (perform o) s = refl
  restored_same inside (bind y a b) s =
      ap (λ f. bind y (eager n inside (lists_in_order n a) (λ x t. not (nat_eq x y) && f x)) (eager n inside (lists_in_order n b) s)) (before_same b s)
      ∙ (rw (restored_same inside a (λ x t. not (nat_eq x y) && is_soon x b (s x)), restored_same inside b s) refl)
  restored_same inside (sequence a b) s =
      ap (λ f. sequence (eager n inside (lists_in_order n a) (λ x t. f x)) (eager n inside (lists_in_order n b) s)) (before_same b s)
      ∙ (rw (restored_same inside a (λ x t. is_soon x b (s x)), restored_same inside b s) refl)
  restored_same inside (branch a b c) s =
      ap (λ f. branch (eager n inside (lists_in_order n a) (λ x t. cond t (f x) (is_soon x (lists_in_order n c) (s x)))) (eager n inside (lists_in_order n b) s)
      (eager n inside (lists_in_order n c) s)) (before_same b s)
      ∙ (ap (λ f. branch (eager n inside (lists_in_order n a) (λ x t. cond t (is_soon x b (s x)) (f x))) (eager n inside (lists_in_order n b) s)
      (eager n inside (lists_in_order n c) s)) (before_same c s)
      ∙ (rw (restored_same inside a (λ x t. cond t (is_soon x b (s x)) (is_soon x c (s x))), restored_same inside b s, restored_same inside c s) refl))
  restored_same inside (fix members e) s = rw (restored_same inside e s) refl
  restored_same inside (call a listed) s = ap (call a) (first_same _ _ (λ x lt. ap (λ t. t && (inside x && (s x true || s x false))) (has_in_order listed x lt)))
  restored_same inside (tail_call a) s = refl
  restored_same inside (return e) s = rw (restored_same inside e (λ x t. nat_eq x 0)) refl
  restored_same inside (end e) s = rw (restored_same inside e (λ x t. false)) refl
  restored_same inside (save saves e) s = rw (restored_same (with_region saves inside) e s) refl
