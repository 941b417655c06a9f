-- Exact saves and exact restores are what a body needs to do the same.
use Rattle.std.proofs.Common.{◌≡◌, ℕ, Bool, true, false, List, [], ◌∷◌, ◌++◌, refl, ap, sym, ◌∙◌, inl, inr, ◌⊎◌, map}
use Rattle.std.specs.Prelude.{◌||◌}
use Rattle.sch_word.specs.trees.NumberSets.{has}
use Rattle.sch_word.proofs.facts.Booleans.{or_left, or_right, or_or}
use Rattle.sch_control.specs.AtomsAndSites.{application_atoms}
use Rattle.sch_control.specs.Meaning.{heads, with_region, no_region}
use Rattle.sch_control.specs.Tree.{Expression, perform, bind, sequence, branch, fix, call, tail_call, return, end, save}
use Rattle.sch_control.specs.flow.Live.{named, MayGive, Later, nothing_later}
use Rattle.sch_control.specs.flow.Paths.{Event, References, Saves, Calls, binding, grouping, IsPath, is_call_with, calls}
use Rattle.sch_paths.specs.Conditions.{Saved, Restored}
use Rattle.sch_control.specs.flow.LiveSets.{LiveSets}
use Rattle.sch_paths.specs.Exact.{saved_round, SavesNeeds, ArmsSave, LazySaves, EagerSets, RestoresBetween, AllSets}

-- ## Calls of a path

pub calls_append : (x : ℕ) (xs ys : List Event) → calls x (xs ++ ys) ≡ (calls x xs || calls x ys)
calls_append x [] ys = refl
calls_append x (e ∷ es) ys = rw (calls_append x es ys) (sym (or_or (is_call_with x e) (calls x es) (calls x ys)))

pub in_first : (x : ℕ) (xs ys : List Event) → calls x xs ≡ true → calls x (xs ++ ys) ≡ true
in_first x xs ys h = calls_append x xs ys ∙ or_left (calls x xs) _ h

pub in_second : (x : ℕ) (xs ys : List Event) → calls x ys ≡ true → calls x (xs ++ ys) ≡ true
in_second x xs ys h = calls_append x xs ys ∙ or_right (calls x xs) _ h

-- ## Registers that calls keep

-- what is kept need not be restored
pub restored_kept : (keeps : ℕ → Bool) (e : Expression) (Met : Type 0) (L S : Later) → Restored (λ x. false) e Met L S → Restored keeps e Met L S
restored_kept keeps (perform o) Met L S r = tt
restored_kept keeps (bind y a b) Met L S r = (restored_kept keeps a Met _ _ r.0, restored_kept keeps b Met L S r.1)
restored_kept keeps (sequence a b) Met L S r = (restored_kept keeps a Met _ _ r.0, restored_kept keeps b Met L S r.1)
restored_kept keeps (branch a b c) Met L S r = (restored_kept keeps a Met _ _ r.0, (restored_kept keeps b _ L S r.1.0, restored_kept keeps c _ L S r.1.1))
restored_kept keeps (fix members e) Met L S r = restored_kept keeps e Met L S r
restored_kept keeps (call a restores) Met L S r = λ x met l s k. r x met l s refl
restored_kept keeps (tail_call a) Met L S r = tt
restored_kept keeps (return e) Met L S r = restored_kept keeps e Met _ _ r
restored_kept keeps (end e) Met L S r = restored_kept keeps e Met _ _ r
restored_kept keeps (save saves e) Met L S r = restored_kept keeps e Met L S r

-- ## Calls outside the arms of an expression

-- some call that stands in no arm of the expression lists the variable
abbrev pub ListsOutside : ℕ → Expression → Type 0
ListsOutside x (bind y a b) = ListsOutside x a ⊎ ListsOutside x b
ListsOutside x (sequence a b) = ListsOutside x a ⊎ ListsOutside x b
ListsOutside x (branch a b c) = ListsOutside x a
ListsOutside x (fix members e) = ListsOutside x e
ListsOutside x (call a listed) = has x listed ≡ true
ListsOutside x (return e) = ListsOutside x e
ListsOutside x (end e) = ListsOutside x e
ListsOutside x (save saves e) = ListsOutside x e
ListsOutside x (perform o) = ⊥
ListsOutside x (tail_call a) = ⊥

-- every path passes such a call
pub passes : (x : ℕ) (inside : ℕ → Bool) (e : Expression) → ListsOutside x e → (es : List Event) (r : Bool) → IsPath inside e es r → calls x es ≡ true
passes x inside (perform o) l es r path = absurd l
passes x inside (bind y a b) (inl l) es r path =
    ap (calls x) path.5 ∙ in_first x path.0 _ (passes x inside a l path.0 path.2 path.3)
passes x inside (bind y a b) (inr l) es r path =
    ap (calls x) path.5 ∙ in_second x path.0 _ (in_second x (binding inside y) path.1 (passes x inside b l path.1 r path.4))
passes x inside (sequence a b) (inl l) es r path =
    ap (calls x) path.5 ∙ in_first x path.0 _ (passes x inside a l path.0 path.2 path.3)
passes x inside (sequence a b) (inr l) es r path =
    ap (calls x) path.5 ∙ in_second x path.0 _ (passes x inside b l path.1 r path.4)
passes x inside (branch a b c) l es r path =
    ap (calls x) path.5 ∙ in_first x path.0 _ (passes x inside a l path.0 path.2 path.3)
passes x inside (fix members e) l es r path =
    ap (calls x) path.2 ∙ in_second x (grouping inside members) path.0 (passes x inside e l path.0 r path.1)
passes x inside (call a listed) l es r path =
    ap (calls x) path ∙ in_second x (map References (named (application_atoms a))) (Calls a listed ∷ []) (or_left (has x listed) false l)
passes x inside (tail_call a) l es r path = absurd l
passes x inside (return e) l es r path = ap (calls x) path.3 ∙ in_first x path.0 _ (passes x inside e l path.0 path.1 path.2)
passes x inside (end e) l es r path = ap (calls x) path.3 ∙ in_first x path.0 _ (passes x inside e l path.0 path.1 path.2)
passes x inside (save saves e) l es r path =
    ap (calls x) path.2 ∙ in_second x (map Saves (heads e saves)) path.0 (passes x (with_region saves inside) e l path.0 r path.1)

-- ## What is live after a call is saved there

-- what the calls outside its arms list is inside a region there
abbrev pub Within : (inside : ℕ → Bool) → Expression → Type 0
Within inside e = (x : ℕ) → ListsOutside x e → with_region (saved_round e) inside x ≡ true

within_exact : (inside : ℕ → Bool) (e : Expression) → SavesNeeds inside e → Within inside e
within_exact inside e exact x l = by (inside x) refl where
  by : (t : Bool) → inside x ≡ t → (has x (saved_round e) || inside x) ≡ true
  by true i = or_right (has x (saved_round e)) _ i
  by false i = or_left (has x (saved_round e)) _ ((exact x).1 (passes x no_region e l, i))

-- more is inside
part_within : (inside : ℕ → Bool) (part : Expression) → ((x : ℕ) → ListsOutside x part → inside x ≡ true) → Within inside part
part_within inside part f x l = or_right (has x (saved_round part)) _ (f x l)

module _ (keeps : ℕ → Bool) where
  pub all_saved : (e : Expression) (Met : Type 0) (inside : ℕ → Bool) (L : Later) → LiveSets e Met L → ArmsSave inside e → Within inside e → Saved keeps e Met inside L
  all_saved (perform o) Met inside L sets arms w = tt
  all_saved (bind y a b) Met inside L sets arms w = (
    all_saved a Met inside _ sets.0 arms.0 (part_within inside a (λ x l. w x (inl l))),
    all_saved b Met inside L sets.1 arms.1 (part_within inside b (λ x l. w x (inr l))),
  )
  all_saved (sequence a b) Met inside L sets arms w = (
    all_saved a Met inside _ sets.0 arms.0 (part_within inside a (λ x l. w x (inl l))),
    all_saved b Met inside L sets.1 arms.1 (part_within inside b (λ x l. w x (inr l))),
  )
  all_saved (branch a b c) Met inside L sets arms w = (
    all_saved a Met inside _ sets.0 arms.0 (part_within inside a (λ x l. w x l)),
    (
      all_saved b (Met × MayGive a true) inside L sets.1.0 arms.1.0.1 (within_exact inside b arms.1.0.0),
      all_saved c (Met × MayGive a false) inside L sets.1.1 arms.1.1.1 (within_exact inside c arms.1.1.0),
    ),
  )
  all_saved (fix members e) Met inside L sets arms w = all_saved e Met inside L sets arms (part_within inside e (λ x l. w x l))
  all_saved (call a listed) Met inside L sets arms w = λ x met l k. w x ((sets x).1 (met, l))
  all_saved (tail_call a) Met inside L sets arms w = tt
  all_saved (return e) Met inside L sets arms w = all_saved e Met inside _ sets arms (part_within inside e (λ x l. w x l))
  all_saved (end e) Met inside L sets arms w = all_saved e Met inside _ sets arms (part_within inside e (λ x l. w x l))
  all_saved (save saves e) Met inside L sets arms w = all_saved e Met (with_region saves inside) L sets arms (part_within (with_region saves inside) e (λ x l. w x l))

  -- at each call of a body with lazy saves, what is live after it is saved
  pub lazy_saved : (e : Expression) → LiveSets e (Unit {0}) nothing_later → LazySaves e → Saved keeps e (Unit {0}) no_region nothing_later
  lazy_saved e sets lazy = all_saved e (Unit {0}) no_region nothing_later sets lazy.1 (within_exact no_region e lazy.0)

  -- ## What is wanted soon is restored

  pub all_restored : (e : Expression) (Met : Type 0) (inside : ℕ → Bool) (L S : Later) → Saved keeps e Met inside L → RestoresBetween e Met inside L S → Restored keeps e Met L S
  all_restored (perform o) Met inside L S saves between = tt
  all_restored (bind y a b) Met inside L S saves between = (all_restored a Met inside _ _ saves.0 between.0, all_restored b Met inside L S saves.1 between.1)
  all_restored (sequence a b) Met inside L S saves between = (all_restored a Met inside _ _ saves.0 between.0, all_restored b Met inside L S saves.1 between.1)
  all_restored (branch a b c) Met inside L S saves between = (
    all_restored a Met inside _ _ saves.0 between.0,
    (
      all_restored b (Met × MayGive a true) inside L S saves.1.0 between.1.0,
      all_restored c (Met × MayGive a false) inside L S saves.1.1 between.1.1,
    ),
  )
  all_restored (fix members e) Met inside L S saves between = all_restored e Met inside L S saves between
  all_restored (call a restores) Met inside L S saves between = λ x met l s k. (between x).1 (saves x met l k, (met, (l, s)))
  all_restored (tail_call a) Met inside L S saves between = tt
  all_restored (return e) Met inside L S saves between = all_restored e Met inside _ _ saves between
  all_restored (end e) Met inside L S saves between = all_restored e Met inside _ _ saves between
  all_restored (save saved e) Met inside L S saves between = all_restored e Met (with_region saved inside) L S saves between

-- the fewest restores are between the bounds
pub eager_between : (e : Expression) (Met : Type 0) (inside : ℕ → Bool) (L S : Later) → EagerSets e Met inside L S → RestoresBetween e Met inside L S
eager_between (perform o) Met inside L S eager = tt
eager_between (bind y a b) Met inside L S eager = (eager_between a Met inside _ _ eager.0, eager_between b Met inside L S eager.1)
eager_between (sequence a b) Met inside L S eager = (eager_between a Met inside _ _ eager.0, eager_between b Met inside L S eager.1)
eager_between (branch a b c) Met inside L S eager = (
  eager_between a Met inside _ _ eager.0,
  (eager_between b (Met × MayGive a true) inside L S eager.1.0, eager_between c (Met × MayGive a false) inside L S eager.1.1),
)
eager_between (fix members e) Met inside L S eager = eager_between e Met inside L S eager
eager_between (call a restores) Met inside L S eager = λ x. ((λ h. let w = (eager x).0 h in (w.0, (w.1.0, w.1.1.0))), (eager x).1)
eager_between (tail_call a) Met inside L S eager = tt
eager_between (return e) Met inside L S eager = eager_between e Met inside _ _ eager
eager_between (end e) Met inside L S eager = eager_between e Met inside _ _ eager
eager_between (save saved e) Met inside L S eager = eager_between e Met (with_region saved inside) L S eager

-- and so are the most
pub every_between : (e : Expression) (Met : Type 0) (inside : ℕ → Bool) (L S : Later) → AllSets e Met inside L → RestoresBetween e Met inside L S
every_between (perform o) Met inside L S every = tt
every_between (bind y a b) Met inside L S every = (every_between a Met inside _ _ every.0, every_between b Met inside L S every.1)
every_between (sequence a b) Met inside L S every = (every_between a Met inside _ _ every.0, every_between b Met inside L S every.1)
every_between (branch a b c) Met inside L S every = (
  every_between a Met inside _ _ every.0,
  (every_between b (Met × MayGive a true) inside L S every.1.0, every_between c (Met × MayGive a false) inside L S every.1.1),
)
every_between (fix members e) Met inside L S every = every_between e Met inside L S every
every_between (call a restores) Met inside L S every = λ x. ((every x).0, λ w. (every x).1 (w.0, (w.1.0, w.1.1.0)))
every_between (tail_call a) Met inside L S every = tt
every_between (return e) Met inside L S every = every_between e Met inside _ _ every
every_between (end e) Met inside L S every = every_between e Met inside _ _ every
every_between (save saved e) Met inside L S every = every_between e Met (with_region saved inside) L S every
