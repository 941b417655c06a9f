-- Each instruction of a layout passes a test where the parts of the tree do, and the copies of what its regions save.
use Rattle.std.proofs.Common.{◌≡◌, ℕ, ◌+◌, List, [], ◌∷◌, Option, None, Bool, true, false, cond, refl}
use Rattle.std.specs.Prelude.{filter, nat_eq, ◌||◌}
use Rattle.std.specs.List.{list_all}
use Rattle.std.proofs.lemmas.Bool.{and_from, and_parts}
use Rattle.sch_word.proofs.facts.Booleans.{or_left, or_right}
use Rattle.sch_word.specs.declared.mark.MarkKind.TheVariants as mark
use Rattle.sch_word.specs.trees.NumberSets.{has, unless}
use Rattle.sch_word.proofs.facts.NumberTests.{same}
use Rattle.sch_control.specs.Meaning.{binds, heads, with_region}
use Rattle.sch_control.specs.Tree.{Expression, perform, bind, sequence, branch, fix, call, tail_call, return, end, save}
use Rattle.sch_control.specs.Valid.{member_variables}
use Rattle.sch_control.specs.flow.Regions.{restores_saved}
use Rattle.sch_word.proofs.facts.NumberSets.{each_passes}
use Rattle.sch_frames.specs.declared.instruction.Instruction.{Instruction}
use Rattle.sch_frames.specs.declared.instruction.Instruction.TheVariants.{Store, Copy, Mark}
use Rattle.sch_word.specs.values.Places.{is_slot}
use Rattle.sch_word.proofs.facts.Lists.{all_passing}
use Rattle.sch_layout.specs.BodyLayout.{Plan, lay, leave, loaded, stored, labels}
use Rattle.sch_layout.proofs.layouts.InstructionTests.{Passes, Steers, leave_pass, spill_passes}
use Rattle.sch_homes.specs.Homes.{is_saved}

-- what regions save and calls restore passes a test
abbrev pub KeptIn : (kept : ℕ → Bool) → Expression → Type 0
KeptIn kept (perform o) = Unit {0}
KeptIn kept (bind x a b) = KeptIn kept a × KeptIn kept b
KeptIn kept (sequence a b) = KeptIn kept a × KeptIn kept b
KeptIn kept (branch a b c) = KeptIn kept a × (KeptIn kept b × KeptIn kept c)
KeptIn kept (fix members e) = KeptIn kept e
KeptIn kept (call a restores) = list_all kept restores ≡ true
KeptIn kept (tail_call a) = Unit {0}
KeptIn kept (return e) = KeptIn kept e
KeptIn kept (end e) = KeptIn kept e
KeptIn kept (save saves e) = (list_all kept saves ≡ true) × KeptIn kept e

all_from : (test kept : ℕ → Bool) → ((x : ℕ) → test x ≡ true → kept x ≡ true) → (xs : List ℕ) → list_all test xs ≡ true → list_all kept xs ≡ true
all_from test kept f [] h = refl
all_from test kept f (x ∷ xs) h = let parts = and_parts (test x) _ h in and_from _ _ (f x parts.0) (all_from test kept f xs parts.1)

all_in : (kept : ℕ → Bool) (xs : List ℕ) → ((x : ℕ) → has x xs ≡ true → kept x ≡ true) → list_all kept xs ≡ true
all_in kept [] f = refl
all_in kept (x ∷ xs) f = and_from _ _ (f x (or_left (nat_eq x x) _ (same x))) (all_in kept xs (λ y h. f y (or_right (nat_eq y x) _ h)))

-- where what the regions of an expression save is kept, and what regions round it save
pub kept_in : (kept : ℕ → Bool) (e : Expression) (inside : ℕ → Bool) → ((x : ℕ) → is_saved e x ≡ true → kept x ≡ true)
    → ((x : ℕ) → inside x ≡ true → kept x ≡ true) → restores_saved e inside ≡ true → KeptIn kept e
kept_in kept (perform o) inside f g h = tt
kept_in kept (bind y a b) inside f g h =
    let parts = and_parts (restores_saved a inside) _ h in
    (kept_in kept a inside (λ x s. f x (or_left (is_saved a x) _ s)) g parts.0, kept_in kept b inside (λ x s. f x (or_right (is_saved a x) _ s)) g parts.1)
kept_in kept (sequence a b) inside f g h =
    let parts = and_parts (restores_saved a inside) _ h in
    (kept_in kept a inside (λ x s. f x (or_left (is_saved a x) _ s)) g parts.0, kept_in kept b inside (λ x s. f x (or_right (is_saved a x) _ s)) g parts.1)
kept_in kept (branch a b c) inside f g h =
    let parts = and_parts (restores_saved a inside) _ h in
    let arms = and_parts (restores_saved b inside) _ parts.1 in (
      kept_in kept a inside (λ x s. f x (or_left (is_saved a x) _ s)) g parts.0,
      (
        kept_in kept b inside (λ x s. f x (or_right (is_saved a x) _ (or_left (is_saved b x) _ s))) g arms.0,
        kept_in kept c inside (λ x s. f x (or_right (is_saved a x) _ (or_right (is_saved b x) _ s))) g arms.1,
      ),
    )
kept_in kept (fix members e) inside f g h = kept_in kept e inside f g h
kept_in kept (call a restores) inside f g h = all_from inside kept g restores (and_parts _ (list_all inside restores) h).1
kept_in kept (tail_call a) inside f g h = tt
kept_in kept (return e) inside f g h = kept_in kept e inside f g h
kept_in kept (end e) inside f g h = kept_in kept e inside f g h
kept_in kept (save saves e) inside f g h = (
  all_in kept saves (λ x m. f x (or_left (has x saves) _ m)),
  kept_in kept e (with_region saves inside) (λ x s. f x (or_right (has x saves) _ s)) (λ x i. by x (has x saves) refl i) h,
) where
  by : (x : ℕ) (t : Bool) → has x saves ≡ t → (t || inside x) ≡ true → kept x ≡ true
  by x true m i = f x (or_left (has x saves) _ m)
  by x false m i = g x i

heads_kept : (kept : ℕ → Bool) (e : Expression) (xs : List ℕ) → list_all kept xs ≡ true → list_all kept (heads e xs) ≡ true
heads_kept kept e [] h = refl
heads_kept kept e (x ∷ xs) h = let parts = and_parts (kept x) _ h in by (binds x e) (heads_kept kept e xs parts.1) parts.0 where
  by : (b : Bool) → list_all kept (heads e xs) ≡ true → kept x ≡ true → list_all kept (unless b x (heads e xs)) ≡ true
  by true more k = more
  by false more k = and_from _ _ k more

module _ (plan : Plan) (test : Instruction → Bool) (steers : Steers test) (kept : ℕ → Bool)
    (goes : (x : ℕ) → kept x ≡ true → is_slot (plan.place x) ≡ false → test (Copy (plan.home x) (plan.place x)) ≡ true)
    (comes : (x : ℕ) → kept x ≡ true → is_slot (plan.place x) ≡ false → test (Copy (plan.place x) (plan.home x)) ≡ true) where
  stored_pass : (xs : List ℕ) → list_all kept xs ≡ true → (rest : List Instruction) → list_all test rest ≡ true → list_all test (stored plan xs rest) ≡ true
  stored_pass [] k rest h = h
  stored_pass (x ∷ xs) k rest h = let parts = and_parts (kept x) _ k in by (is_slot (plan.place x)) refl parts.0 (stored_pass xs parts.1 rest h) where
    by : (t : Bool) → is_slot (plan.place x) ≡ t → kept x ≡ true → list_all test (stored plan xs rest) ≡ true
        → list_all test (cond t (stored plan xs rest) (Mark (mark.Save x) ∷ (Copy (plan.home x) (plan.place x) ∷ stored plan xs rest))) ≡ true
    by true i k more = more
    by false i k more = and_from _ _ (steers.marks (mark.Save x) refl) (and_from _ _ (goes x k i) more)

  loaded_pass : (xs : List ℕ) → list_all kept xs ≡ true → (rest : List Instruction) → list_all test rest ≡ true → list_all test (loaded plan xs rest) ≡ true
  loaded_pass [] k rest h = h
  loaded_pass (x ∷ xs) k rest h = let parts = and_parts (kept x) _ k in by (is_slot (plan.place x)) refl parts.0 (loaded_pass xs parts.1 rest h) where
    by : (t : Bool) → is_slot (plan.place x) ≡ t → kept x ≡ true → list_all test (loaded plan xs rest) ≡ true
        → list_all test (cond t (loaded plan xs rest) (Mark (mark.Restore x) ∷ (Copy (plan.place x) (plan.home x) ∷ loaded plan xs rest))) ≡ true
    by true i k more = more
    by false i k more = and_from _ _ (steers.marks (mark.Restore x) refl) (and_from _ _ (comes x k i) more)

  pub lay_passes : (e : Expression) → KeptIn kept e → Passes plan test steers e → (inside : ℕ → Bool) → ((x : ℕ) → inside x ≡ true → kept x ≡ true)
      → (n : ℕ) (to : Option ℕ) (rest : List Instruction) → list_all test rest ≡ true → list_all test (lay plan e inside n to rest) ≡ true
  lay_passes (perform o) k p inside g n to rest h = and_from _ _ p (leave_pass plan test steers to rest h)
  lay_passes (bind x a b) k p inside g n to rest h =
      lay_passes a k.0 p.1.0 inside g n None _
      (spill_passes plan test steers x (Store (plan.place x)) p.0 _
      (stored_pass (filter inside (x ∷ [])) (all_passing inside kept (x ∷ []) g) (lay plan b inside (n + labels a) to rest) (lay_passes b k.1 p.1.1 inside g (n + labels a) to rest h)))
  lay_passes (sequence a b) k p inside g n to rest h = lay_passes a k.0 p.0 inside g _ _ _ (lay_passes b k.1 p.1 inside g _ _ _ h)
  lay_passes (branch a b c) k p inside g n to rest h =
      lay_passes a k.0 p.0 inside g _ _ _ (lay_passes b k.1.0 p.1.0 inside g _ _ _
      (and_from _ _ (steers.jump _) (and_from _ _ (steers.label _) (lay_passes c k.1.1 p.1.1 inside g _ _ _ (and_from _ _ (steers.label _) h)))))
  lay_passes (return e) k p inside g n to rest h = lay_passes e k p inside g _ _ _ (and_from _ _ (steers.marks mark.Return refl) (and_from _ _ steers.return h))
  lay_passes (end e) k p inside g n to rest h = lay_passes e k p.1 inside g _ _ _ (and_from _ _ p.0 h)
  lay_passes (fix members e) k p inside g n to rest h =
      and_from _ _ p.0 (stored_pass (filter inside (member_variables members)) (all_passing inside kept (member_variables members) g)
      (lay plan e inside n to rest) (lay_passes e k p.1 inside g n to rest h))
  lay_passes (call a restores) k p inside g n to rest h =
      p.0 _ (and_from _ _ (steers.marks (mark.Call a.site) refl) (and_from _ _ p.1 (loaded_pass restores k (leave to rest) (leave_pass plan test steers to rest h))))
  lay_passes (tail_call a) k p inside g n to rest h = p.0 _ (and_from _ _ (steers.marks (mark.Tail a.site) refl) (and_from _ _ p.1 h))
  lay_passes (save saves e) k p inside g n to rest h =
      stored_pass (heads e saves) (heads_kept kept e saves k.0) (lay plan e (with_region saves inside) n to rest)
      (lay_passes e k.1 p (with_region saves inside) (λ x i. by x (has x saves) refl i (λ m. each_passes kept saves k.0 x m)) n to rest h) where
        by : (x : ℕ) (t : Bool) → has x saves ≡ t → (t || inside x) ≡ true → (has x saves ≡ true → kept x ≡ true) → kept x ≡ true
        by x true m i f = f m
        by x false m i f = g x i
