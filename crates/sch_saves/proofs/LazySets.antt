-- What the regions of a body save is exactly what is needed; and the body does what it did.
use Rattle.std.proofs.Common.{◌≡◌, ℕ, ◌<◌, Bool, true, false, List, [], ◌∷◌, Option, Some, None, refl, ap, sym, ◌∙◌, subst, inl, inr, ◌⊎◌, arith}
use Rattle.std.specs.Prelude.{nat_lt, ◌||◌, ◌&&◌, not, filter}
use Rattle.std.proofs.lemmas.Bool.Decides.{nat_tests}
use Rattle.sch_word.specs.trees.NumberSets.{has, without_repeats}
use Rattle.sch_word.specs.trees.Bindings.{numbers}
use Rattle.sch_word.proofs.facts.Booleans.{and_left, and_right, and_of, not_true}
use Rattle.sch_control.specs.Meaning.{no_region, with_region}
use Rattle.sch_control.specs.Tree.{Expression, perform, bind, sequence, branch, fix, call, tail_call, return, end, save, Code}
use Rattle.sch_control.specs.Valid.{first_scope, in_scope, in_scope_whole, numbered, bound_in}
use Rattle.sch_control.specs.flow.Bare.{unlisted, unsaved, erased}
use Rattle.sch_control.specs.flow.Live.{known}
use Rattle.sch_control.specs.flow.LiveSets.{HasLiveSets}
use Rattle.sch_paths.specs.Exact.{saved_round, SavesNeeds, ArmsSave, LazySaves}
use Rattle.sch_paths.specs.Regions.{regions_stand}
use Rattle.sch_paths.specs.Table.{is_other, saved_by, needs}
use Rattle.sch_paths.specs.PlainlySame.{PlainlySame}
use Rattle.sch_paths.proofs.runs.PlainlyTheSame.{plainly}
use Rattle.sch_paths.proofs.runs.RestoresAreEnough.{valid_unbound, valid_once, scope_erased, bound_erased}
use Rattle.sch_paths.proofs.saves.InevitableCalls.{inevitable}
use Rattle.sch_paths.proofs.saves.ListedBelow.{ListsBelow, body_below}
use Rattle.sch_paths.proofs.saves.SavedAndRestored.{lazy_saved}
use Rattle.sch_paths.proofs.saves.UnsavedSets.{same_sets}
use Rattle.sch_paths.specs.EachLiveSaved.{EachLiveSaved}
use Rattle.sch_paths.proofs.saves.TwoSets.{needs_is, saved_unsaved}
use Rattle.sch_saves.specs.LazyRegions.{needed, round, with_needs, outermost, lazily_saved}
use Rattle.sch_saves.specs.Promises.{EachSaveFollowed}
use Rattle.sch_control.proofs.NumberLists.{has_filter, has_first}
use Rattle.sch_saves.proofs.LazyTrees.{round_saves, outermost_round, region_outermost, lazily_inside, unsaved_lazily, erased_is, no_round, stands}

-- ## What is needed is listed somewhere

not_both_known : (k : Option Bool) → (is_other k true && is_other k false) ≡ true → ⊥
not_both_known None h = absurd (cc)
not_both_known (Some true) h = absurd (cc)
not_both_known (Some false) h = absurd (cc)

seq_needs : (n a b : Bool) → ((n || a) && (n || b)) ≡ true → (n ≡ true) ⊎ ((a && b) ≡ true)
seq_needs true a b h = inl refl
seq_needs false a b h = inr h

if_needs : (t f b c d e : Bool) → (((t || b) && (f || c)) && ((t || d) && (f || e))) ≡ true → ((t && f) ≡ true) ⊎ (((b && d) ≡ true) ⊎ ((c && e) ≡ true))
if_needs true true b c d e h = inl refl
if_needs true false b c d e h = inr (inr h)
if_needs false f b c d e h = inr (inl (and_of b d (and_left b _ (and_left (b && (f || c)) _ h)) (and_left d _ (and_right (b && (f || c)) _ h))))

needed_listed : (n x : ℕ) (e : Expression) → ListsBelow n e → needs x e ≡ true → x < n
needed_listed n x (perform o) b h = absurd (not_both_known (known o) h)
needed_listed n x (bind y a c) b h = elim (seq_needs (needs x a) (saved_by x c true) (saved_by x c false) h) [ inl f ↦ needed_listed n x a b.0 f | inr g ↦ needed_listed n x c b.1 g ]
needed_listed n x (sequence a c) b h = elim (seq_needs (needs x a) (saved_by x c true) (saved_by x c false) h) [ inl f ↦ needed_listed n x a b.0 f | inr g ↦ needed_listed n x c b.1 g ]
needed_listed n x (branch a c d) b h =
    elim (if_needs (saved_by x a true) (saved_by x a false) (saved_by x c true) (saved_by x d true) (saved_by x c false) (saved_by x d false) h) [
      | inl f ↦ needed_listed n x a b.0 f
      | inr g ↦ elim g [ inl k ↦ needed_listed n x c b.1.0 k | inr k ↦ needed_listed n x d b.1.1 k ]
    ]
needed_listed n x (fix members e) b h = needed_listed n x e b h
needed_listed n x (call a listed) b h = b x (and_left (has x listed) _ h)
needed_listed n x (tail_call a) b h = absurd (cc)
needed_listed n x (return e) b h = needed_listed n x e b (and_left (needs x e) _ h)
needed_listed n x (end e) b h = needed_listed n x e b (and_left (needs x e) _ h)
needed_listed n x (save saves e) b h = needed_listed n x e b h

needs_same : (x : ℕ) (e r : Expression) → unsaved r ≡ unsaved e → needs x r ≡ needs x e
needs_same x e r is =
    let other : (e : Expression) → needs x (unsaved e) ≡ needs x e = λ e. rw (saved_unsaved x e true, saved_unsaved x e false) refl in
    sym (other r) ∙ (ap (needs x) is ∙ other e)

-- ## Each region saves what is needed

module _ (n : ℕ) where
  in_needed : (x : ℕ) (e : Expression) → has x (needed n e) ≡ (nat_lt x n && needs x e)
  in_needed x e = has_filter (λ x. needs x e) x (numbers 0 n) ∙ ap (λ b. b && needs x e) (has_first x n)

  saves_round : (inside : ℕ → Bool) (e : Expression) → saved_round (lazily_inside n inside e) ≡ filter (λ x. not (inside x)) (needed n e)
  saves_round inside e =
      ap saved_round (outermost_round inside (needed n e) (with_needs n e)) ∙ round_saves (filter (λ x. not (inside x)) (needed n e)) (outermost (with_region (needed n e) inside) (with_needs n e)) (no_round n (with_region (needed n e) inside) e)

  saves_needs : (inside : ℕ → Bool) (e : Expression) → ListsBelow n e → SavesNeeds inside (lazily_inside n inside e)
  saves_needs inside e below x =
      let r = lazily_inside n inside e in
      let same : needs x r ≡ needs x e = needs_same x e r (unsaved_lazily n inside e) in
      let saved : has x (saved_round r) ≡ ((nat_lt x n && needs x e) && not (inside x))
      = ap (has x) (saves_round inside e) ∙ (has_filter (λ x. not (inside x)) x (needed n e) ∙ ap (λ b. b && not (inside x)) (in_needed x e)) in (
        λ h.
            let w = sym saved ∙ h in (
              (needs_is x no_region r).0 (same ∙ and_right (nat_lt x n) _ (and_left (nat_lt x n && needs x e) _ w)),
              not_true (inside x) (and_right (nat_lt x n && needs x e) _ w),
            ),
        λ w.
            let is_needed : needs x e ≡ true = sym same ∙ (needs_is x no_region r).1 w.0 in
            let lt : x < n = needed_listed n x e below is_needed in
            let test : nat_lt x n ≡ true = grind (arith, nat_tests, lt) in
            saved ∙ and_of (nat_lt x n && needs x e) _ (and_of (nat_lt x n) _ test is_needed) (ap not w.1),
      )

  arms_round : (inside : ℕ → Bool) (xs : List ℕ) (e : Expression) → ArmsSave (with_region xs inside) e → ArmsSave inside (round xs e)
  arms_round inside [] e h = h
  arms_round inside (x ∷ xs) e h = h

  arms_lazily : (inside : ℕ → Bool) (e : Expression) → ((inside : ℕ → Bool) → ArmsSave inside (outermost inside (with_needs n e))) → ArmsSave inside (lazily_inside n inside e)
  arms_lazily inside e h =
      let xs = needed n e in
      subst (λ z. ArmsSave inside z) (sym (outermost_round inside xs (with_needs n e)))
      (arms_round inside (filter (λ x. not (inside x)) xs) (outermost (with_region xs inside) (with_needs n e)) (subst (λ z. ArmsSave z (outermost (with_region xs inside) (with_needs n e))) (sym (region_outermost inside xs)) (h (with_region xs inside))))

  arms_save : (e : Expression) → ListsBelow n e → (inside : ℕ → Bool) → ArmsSave inside (outermost inside (with_needs n e))
  arms_save (perform o) below inside = tt
  arms_save (bind y a b) below inside = (arms_save a below.0 inside, arms_save b below.1 inside)
  arms_save (sequence a b) below inside = (arms_save a below.0 inside, arms_save b below.1 inside)
  arms_save (branch a b c) below inside = (
    arms_save a below.0 inside,
    (
      (saves_needs inside b below.1.0, arms_lazily inside b (arms_save b below.1.0)),
      (saves_needs inside c below.1.1, arms_lazily inside c (arms_save c below.1.1)),
    ),
  )
  arms_save (fix members e) below inside = arms_save e below inside
  arms_save (call a listed) below inside = tt
  arms_save (tail_call a) below inside = tt
  arms_save (return e) below inside = arms_save e below inside
  arms_save (end e) below inside = arms_save e below inside
  arms_save (save saves e) below inside = arms_save e below inside

  pub lazy : (e : Expression) → ListsBelow n e → LazySaves (lazily_saved n e)
  lazy e below = (saves_needs no_region e below, arms_lazily no_region e (arms_save e below))

-- ## Of a valid body with live sets

module _ (c : Code) (e r : Expression) (plain_tree : unlisted e ≡ c.expression) (i : in_scope_whole c ≡ true) (n : numbered c ≡ true) (bare : unsaved e ≡ e)
    (made : r ≡ lazily_saved c.variables e) where
  pub without : unsaved r ≡ e
  without = ap unsaved made ∙ (unsaved_lazily c.variables no_region e ∙ bare)

  pub erased_tree : erased r ≡ unlisted e
  erased_tree = erased_is r ∙ ap unlisted without

  same_erased : erased e ≡ c.expression
  same_erased = erased_is e ∙ (ap unlisted bare ∙ plain_tree)

  pub saves_lazily : HasLiveSets e → LazySaves r
  saves_lazily sets = subst LazySaves (sym made) (lazy c.variables e (body_below c e same_erased i n sets))

  pub saves_followed : HasLiveSets e → EachSaveFollowed r
  saves_followed sets =
      let is : erased r ≡ c.expression = erased_tree ∙ plain_tree in
      let bound : bound_in r ≡ bound_in c.expression = sym (bound_erased r) ∙ ap bound_in is in
      inevitable r (ap (regions_stand true) made ∙ stands c.variables e) (first_scope c.entry)
      (sym (scope_erased r (first_scope c.entry)) ∙ (ap (λ z. in_scope z (first_scope c.entry)) is ∙ i))
      (ap without_repeats bound ∙ valid_once c n) (λ x m. valid_unbound c n x (ap (has x) (sym bound) ∙ m)) (same_sets e r without sets) (saves_lazily sets)

  pub live_saved : HasLiveSets e → EachLiveSaved r
  live_saved sets = lazy_saved (λ x. false) r (same_sets e r without sets) (saves_lazily sets)

  pub does_the_same : PlainlySame e r
  does_the_same callee depth environment w =
      sym (plainly c e same_erased i n callee depth environment w) ∙ plainly c r (erased_tree ∙ plain_tree) i n callee depth environment w
