-- The labels of a layout: each stands once, behind the jumps to it.
use Rattle.std.proofs.Common.{◌≡◌, ℕ, suc, ◌+◌, ◌<◌, ◌≤◌, List, [], ◌∷◌, length, Option, Some, None, Bool, true, false, refl, ap, ◌∙◌, ◌⊎◌, inl, inr, arith}
use Rattle.std.specs.Prelude.{filter, nat_eq, nat_lt, ◌||◌}
use Rattle.std.specs.List.{list_all}
use Rattle.std.proofs.lemmas.Bool.{and_from, ne_eqb, eq-eqb, or_left, or_right, or_from, not_from_false, lt-ltb}
use Rattle.sch_word.specs.declared.place.Place.{Place}
use Rattle.sch_word.specs.trees.NumberSets.{has, without_repeats}
use Rattle.sch_word.specs.declared.mark.MarkKind.{MarkKind}
use Rattle.sch_word.specs.declared.mark.MarkKind.TheVariants as mark
use Rattle.sch_control.specs.declared.operation.Application.{Application}
use Rattle.sch_control.specs.Meaning.{heads, with_region}
use Rattle.sch_control.specs.Valid.{member_variables}
use Rattle.sch_control.specs.Tree.{Expression, perform, bind, sequence, branch, fix, call, tail_call, return, end, save}
use Rattle.sch_frames.specs.declared.instruction.Instruction.{Instruction}
use Rattle.sch_frames.specs.declared.instruction.Instruction.TheVariants.{Store, Call, Tail, Label, Jump, Mark}
use Rattle.sch_frames.specs.Valid.{labels_in, jumps_ahead}
use Rattle.sch_layout.specs.BodyLayout.{Plan, under, spill, move_all, carried, stored, loaded, leave, labels, lay}
use Rattle.sch_layout.proofs.CarriedCopies.{carried_has}
use Rattle.sch_layout.proofs.EntryCopies.{spill_has}
use Rattle.sch_layout.proofs.MovesHave.{moves_kept}

module _ (plan : Plan) where
  abbrev there : ℕ → List Instruction → Bool
  there l rest = has l (labels_in rest)

  other : (l m : ℕ) → (l < m) ⊎ (m < l) → nat_eq l m ≡ false
  other l m (inl h) = ne_eqb l m (λ e. omega (arith, h, e))
  other l m (inr h) = ne_eqb l m (λ e. omega (arith, h, e))

  leave_labels : (test : Option ℕ) (rest : List Instruction) → labels_in (leave test rest) ≡ labels_in rest
  leave_labels None rest = refl
  leave_labels (Some l) rest = refl

  -- ## Calls have no labels

  moves_labels : (tail : Bool) (a : Application ℕ) (rest : List Instruction) → labels_in (move_all plan.limit (plan.moves tail a) rest) ≡ labels_in rest
  moves_labels tail a = moves_kept plan.limit labels_in (λ m rest. refl) (λ o rest. refl) (λ to from rest. refl) (λ to rest. refl) (λ k rest. refl) (plan.moves tail a)

  moves_ahead : (tail : Bool) (a : Application ℕ) (rest : List Instruction) → jumps_ahead (move_all plan.limit (plan.moves tail a) rest) ≡ jumps_ahead rest
  moves_ahead tail a = moves_kept plan.limit jumps_ahead (λ m rest. refl) (λ o rest. refl) (λ to from rest. refl) (λ to rest. refl) (λ k rest. refl) (plan.moves tail a)

  bound_labels : (x : ℕ) (rest : List Instruction) → labels_in (under (spill plan x) (Store (plan.place x)) rest) ≡ labels_in rest
  bound_labels x rest = spill_has (λ m. labels_in (under m (Store (plan.place x)) rest) ≡ labels_in rest) plan x refl refl

  bound_ahead : (x : ℕ) (rest : List Instruction) → jumps_ahead (under (spill plan x) (Store (plan.place x)) rest) ≡ jumps_ahead rest
  bound_ahead x rest = spill_has (λ m. jumps_ahead (under m (Store (plan.place x)) rest) ≡ jumps_ahead rest) plan x refl refl

  carried_labels : (kind : ℕ → MarkKind) (to from : ℕ → Place) (xs : List ℕ) (rest : List Instruction) → labels_in (carried plan kind to from xs rest) ≡ labels_in rest
  carried_labels kind to from xs rest = carried_has plan (λ is. labels_in is ≡ labels_in rest) kind to from (λ x i is h. h) xs rest refl

  stored_labels : (xs : List ℕ) (rest : List Instruction) → labels_in (stored plan xs rest) ≡ labels_in rest
  stored_labels = carried_labels mark.Save plan.home plan.place

  loaded_labels : (xs : List ℕ) (rest : List Instruction) → labels_in (loaded plan xs rest) ≡ labels_in rest
  loaded_labels = carried_labels mark.Restore plan.place plan.home

  call_labels : (a : Application ℕ) (restores : List ℕ) (inside : ℕ → Bool) (n : ℕ) (test : Option ℕ) (rest : List Instruction) → labels_in (lay plan (call a restores) inside n test rest) ≡ labels_in rest
  call_labels a restores inside n test rest =
      moves_labels false a (Mark (mark.Call a.site) ∷ (Call a.spread (length a.operands) ∷ loaded plan restores (leave test rest)))
      ∙ (loaded_labels restores (leave test rest) ∙ leave_labels test rest)

  carried_ahead : (kind : ℕ → MarkKind) (to from : ℕ → Place) (xs : List ℕ) (rest : List Instruction) → jumps_ahead (carried plan kind to from xs rest) ≡ jumps_ahead rest
  carried_ahead kind to from xs rest = carried_has plan (λ is. jumps_ahead is ≡ jumps_ahead rest) kind to from (λ x i is h. h) xs rest refl

  stored_ahead : (xs : List ℕ) (rest : List Instruction) → jumps_ahead (stored plan xs rest) ≡ jumps_ahead rest
  stored_ahead = carried_ahead mark.Save plan.home plan.place

  loaded_ahead : (xs : List ℕ) (rest : List Instruction) → jumps_ahead (loaded plan xs rest) ≡ jumps_ahead rest
  loaded_ahead = carried_ahead mark.Restore plan.place plan.home

  call_ahead : (a : Application ℕ) (restores : List ℕ) (inside : ℕ → Bool) (n : ℕ) (test : Option ℕ) (rest : List Instruction) → jumps_ahead (lay plan (call a restores) inside n test rest) ≡ jumps_ahead (leave test rest)
  call_ahead a restores inside n test rest =
      moves_ahead false a (Mark (mark.Call a.site) ∷ (Call a.spread (length a.operands) ∷ loaded plan restores (leave test rest))) ∙ loaded_ahead restores (leave test rest)

  tail_labels : (a : Application ℕ) (inside : ℕ → Bool) (n : ℕ) (test : Option ℕ) (rest : List Instruction) → labels_in (lay plan (tail_call a) inside n test rest) ≡ labels_in rest
  tail_labels a inside n test rest = moves_labels true a (Mark (mark.Tail a.site) ∷ (Tail a.spread (length a.operands) ∷ rest))

  tail_ahead : (a : Application ℕ) (inside : ℕ → Bool) (n : ℕ) (test : Option ℕ) (rest : List Instruction) → jumps_ahead (lay plan (tail_call a) inside n test rest) ≡ jumps_ahead rest
  tail_ahead a inside n test rest = moves_ahead true a (Mark (mark.Tail a.site) ∷ (Tail a.spread (length a.operands) ∷ rest))

  -- ## Labels of an expression

  first_of_two : (l n a b : ℕ) → (l < n) ⊎ (n + (a + b) ≤ l) → (l < n) ⊎ (n + a ≤ l)
  first_of_two l n a b (inl h) = inl h
  first_of_two l n a b (inr h) = inr (omega (arith, h))

  second_of_two : (l n a b : ℕ) → (l < n) ⊎ (n + (a + b) ≤ l) → (l < n + a) ⊎ (n + a + b ≤ l)
  second_of_two l n a b (inl h) = inl (omega (arith, h))
  second_of_two l n a b (inr h) = inr (omega (arith, h))

  first_of_three : (l n a b c : ℕ) → (l < n) ⊎ (n + suc (suc (a + (b + c))) ≤ l) → (l < suc (suc n)) ⊎ (suc (suc n) + a ≤ l)
  first_of_three l n a b c (inl h) = inl (omega (arith, h))
  first_of_three l n a b c (inr h) = inr (omega (arith, h))

  second_of_three : (l n a b c : ℕ) → (l < n) ⊎ (n + suc (suc (a + (b + c))) ≤ l) → (l < suc (suc (n + a))) ⊎ (suc (suc (n + a)) + b ≤ l)
  second_of_three l n a b c (inl h) = inl (omega (arith, h))
  second_of_three l n a b c (inr h) = inr (omega (arith, h))

  third_of_three : (l n a b c : ℕ) → (l < n) ⊎ (n + suc (suc (a + (b + c))) ≤ l) → (l < suc (suc (n + a + b))) ⊎ (suc (suc (n + a + b)) + c ≤ l)
  third_of_three l n a b c (inl h) = inl (omega (arith, h))
  third_of_three l n a b c (inr h) = inr (omega (arith, h))

  not_one : (l n a b c : ℕ) → (l < n) ⊎ (n + suc (suc (a + (b + c))) ≤ l) → nat_eq l n ≡ false
  not_one l n a b c (inl h) = other l n (inl h)
  not_one l n a b c (inr h) = other l n (inr (omega (arith, h)))

  not_two : (l n a b c : ℕ) → (l < n) ⊎ (n + suc (suc (a + (b + c))) ≤ l) → nat_eq l (suc n) ≡ false
  not_two l n a b c (inl h) = other l (suc n) (inl (omega (arith, h)))
  not_two l n a b c (inr h) = other l (suc n) (inr (omega (arith, h)))

  -- a label outside those of an expression stands in what follows or nowhere
  outside : (e : Expression) (inside : ℕ → Bool) (n : ℕ) (test : Option ℕ) (rest : List Instruction) (l : ℕ) → (l < n) ⊎ (n + labels e ≤ l)
      → there l (lay plan e inside n test rest) ≡ there l rest
  outside (perform o) inside n test rest l h = ap (has l) (leave_labels test rest)
  outside (bind x a b) inside n test rest l h =
      outside a inside n None _ l (first_of_two l n (labels a) (labels b) h)
      ∙ (ap (has l) (bound_labels x _ ∙ stored_labels (filter inside (x ∷ [])) _)
      ∙ outside b inside (n + labels a) test rest l (second_of_two l n (labels a) (labels b) h))
  outside (sequence a b) inside n test rest l h =
      outside a inside n None _ l (first_of_two l n (labels a) (labels b) h)
      ∙ outside b inside (n + labels a) test rest l (second_of_two l n (labels a) (labels b) h)
  outside (branch a b c) inside n test rest l h =
      outside a inside (suc (suc n)) (Some n) _ l (first_of_three l n (labels a) (labels b) (labels c) h)
      ∙ (outside b inside (suc (suc (n + labels a))) test _ l (second_of_three l n (labels a) (labels b) (labels c) h)
      ∙ (ap (λ t. t || there l (lay plan c inside (suc (suc (n + labels a + labels b))) test (Label (suc n) ∷ rest))) (not_one l n (labels a) (labels b) (labels c) h)
      ∙ (outside c inside (suc (suc (n + labels a + labels b))) test (Label (suc n) ∷ rest) l (third_of_three l n (labels a) (labels b) (labels c) h)
      ∙ ap (λ t. t || there l rest) (not_two l n (labels a) (labels b) (labels c) h))))
  outside (return e) inside n test rest l h = outside e inside n None _ l h
  outside (end e) inside n test rest l h = outside e inside n None _ l h
  outside (fix members e) inside n test rest l h = ap (has l) (stored_labels (filter inside (member_variables members)) _) ∙ outside e inside n test rest l h
  outside (call a restores) inside n test rest l h = ap (has l) (call_labels a restores inside n test rest)
  outside (tail_call a) inside n test rest l h = ap (has l) (tail_labels a inside n test rest)
  outside (save saves e) inside n test rest l h = ap (has l) (stored_labels (heads e saves) _) ∙ outside e (with_region saves inside) n test rest l h

  -- none of these labels stands there
  abbrev Free : (from to : ℕ) → List Instruction → Type 0
  Free from to rest = (l : ℕ) → from ≤ l → l < to → there l rest ≡ false

  -- the label of a test that fails is before those of the expression, and stands in what follows
  abbrev Ahead : Option ℕ → ℕ → List Instruction → Type 0
  Ahead None n rest = Unit {0}
  Ahead (Some l) n rest = (l < n) × (there l rest ≡ true)

  -- the labels stand once and are ahead
  pub record Right (rest : List Instruction) : Type 0 where
    pub once : without_repeats (labels_in rest) ≡ true
    pub ahead : jumps_ahead rest ≡ true

  stored_right : (xs : List ℕ) (rest : List Instruction) → Right rest → Right (stored plan xs rest)
  stored_right xs rest r = record { once = ap without_repeats (stored_labels xs rest) ∙ r.once; ahead = stored_ahead xs rest ∙ r.ahead }

  leave_right : (test : Option ℕ) (n : ℕ) (rest : List Instruction) → Ahead test n rest → Right rest → Right (leave test rest)
  leave_right None n rest a r = r
  leave_right (Some l) n rest a r = record { once = r.once; ahead = and_from _ _ a.1 r.ahead }

  raised : (test : Option ℕ) (n m : ℕ) (rest : List Instruction) → n ≤ m → Ahead test n rest → Ahead test m rest
  raised None n m rest le a = tt
  raised (Some l) n m rest le a = (omega (arith, le, a.0), a.1)

  -- a label more in front
  labelled : (l : ℕ) (rest : List Instruction) → there l rest ≡ false → Right rest → Right (Label l ∷ rest)
  labelled l rest f r = record { once = and_from _ _ (not_from_false _ f) r.once; ahead = r.ahead }

  ahead_label : (test : Option ℕ) (n m : ℕ) (rest : List Instruction) → Ahead test n rest → Ahead test n (Label m ∷ rest)
  ahead_label None n m rest a = tt
  ahead_label (Some l) n m rest a = (a.0, or_right (nat_eq l m) _ a.1)

  ahead_jump : (test : Option ℕ) (n m : ℕ) (rest : List Instruction) → Ahead test n rest → Ahead test n (Jump m ∷ rest)
  ahead_jump None n m rest a = tt
  ahead_jump (Some l) n m rest a = a

  ahead_lay : (test : Option ℕ) (e : Expression) (inside : ℕ → Bool) (n m : ℕ) (to : Option ℕ) (rest : List Instruction) → n ≤ m → Ahead test n rest → Ahead test n (lay plan e inside m to rest)
  ahead_lay None e inside n m to rest le a = tt
  ahead_lay (Some l) e inside n m to rest le a = (a.0, outside e inside m to rest l (inl (omega (arith, le, a.0))) ∙ a.1)

  pub right : (e : Expression) (inside : ℕ → Bool) (n : ℕ) (test : Option ℕ) (rest : List Instruction) → Free n (n + labels e) rest → Ahead test n rest → Right rest
      → Right (lay plan e inside n test rest)
  right (perform o) inside n test rest f a r =
      let q = leave_right test n rest a r in
      record { once = q.once; ahead = q.ahead }
  right (bind x e b) inside n test rest f a r =
      let inner = right b inside (n + labels e) test rest (λ l h h'. f l (omega (arith, h)) (omega (arith, h'))) (raised test n _ rest (omega arith) a) r in
      let whole : Right (stored plan (filter inside (x ∷ [])) (lay plan b inside (n + labels e) test rest)) = stored_right (filter inside (x ∷ [])) _ inner in
      let within = stored plan (filter inside (x ∷ [])) (lay plan b inside (n + labels e) test rest) in
      right e inside n None _
      (λ l h h'. ap (has l) (bound_labels x within ∙ stored_labels (filter inside (x ∷ [])) _) ∙ (outside b inside (n + labels e) test rest l (inl h') ∙ f l h (omega (arith, h')))) tt
      (record { once = ap without_repeats (bound_labels x within) ∙ whole.once; ahead = bound_ahead x within ∙ whole.ahead })
  right (sequence e b) inside n test rest f a r =
      right e inside n None _ (λ l h h'. outside b inside (n + labels e) test rest l (inl h') ∙ f l h (omega (arith, h'))) tt
      (right b inside (n + labels e) test rest (λ l h h'. f l (omega (arith, h)) (omega (arith, h'))) (raised test n _ rest (omega arith) a) r)
  right (branch e b c) inside n test rest f a r =
      let la = labels e in
      let lb = labels b in
      let lc = labels c in
      let last : Right (Label (suc n) ∷ rest) = labelled (suc n) rest (f (suc n) (omega arith) (omega arith)) r in
      let third : Right (lay plan c inside (suc (suc (n + la + lb))) test (Label (suc n) ∷ rest)) =
      right c inside (suc (suc (n + la + lb))) test (Label (suc n) ∷ rest)
      (λ l h h'. or_from _ _ (other l (suc n) (inr (omega (arith, h)))) (f l (omega (arith, h)) (omega (arith, h'))))
      (ahead_label test _ (suc n) rest (raised test n _ rest (omega arith) a)) last in
      let no_n : there n (lay plan c inside (suc (suc (n + la + lb))) test (Label (suc n) ∷ rest)) ≡ false =
      outside c inside (suc (suc (n + la + lb))) test (Label (suc n) ∷ rest) n (inl (omega arith))
      ∙ or_from _ _ (other n (suc n) (inl (omega arith))) (f n (omega arith) (omega arith)) in
      let middle : Right (Label n ∷ lay plan c inside (suc (suc (n + la + lb))) test (Label (suc n) ∷ rest)) = labelled n _ no_n third in
      let to_end : there (suc n) (Label n ∷ lay plan c inside (suc (suc (n + la + lb))) test (Label (suc n) ∷ rest)) ≡ true =
      or_right (nat_eq (suc n) n) _ (outside c inside (suc (suc (n + la + lb))) test (Label (suc n) ∷ rest) (suc n) (inl (omega arith)) ∙ or_left _ _ (eq-eqb (suc n) (suc n) refl)) in
      let away : (l : ℕ) → suc (suc n) ≤ l → l < suc (suc (n + la + lb)) → there l (Label n ∷ lay plan c inside (suc (suc (n + la + lb))) test (Label (suc n) ∷ rest)) ≡ false =
      λ l h h'. or_from _ _ (other l n (inr (omega (arith, h))))
      (outside c inside (suc (suc (n + la + lb))) test (Label (suc n) ∷ rest) l (inl h')
      ∙ or_from _ _ (other l (suc n) (inr (omega (arith, h)))) (f l (omega (arith, h)) (omega (arith, h')))) in
      let second : Right (lay plan b inside (suc (suc (n + la))) test (Jump (suc n) ∷ (Label n ∷ lay plan c inside (suc (suc (n + la + lb))) test (Label (suc n) ∷ rest)))) =
      right b inside (suc (suc (n + la))) test _ (λ l h h'. away l (omega (arith, h)) (omega (arith, h')))
      (raised test n _ _ (omega arith) (ahead_jump test n (suc n) _ (ahead_label test n n _ (ahead_lay test c inside n (suc (suc (n + la + lb))) test _ (omega arith) (ahead_label test n (suc n) rest a)))))
      (record { once = middle.once; ahead = and_from _ _ to_end middle.ahead }) in
      right e inside (suc (suc n)) (Some n) _
      (λ l h h'. outside b inside (suc (suc (n + la))) test _ l (inl (omega (arith, h'))) ∙ away l h (omega (arith, h')))
      (omega arith, outside b inside (suc (suc (n + la))) test _ n (inl (omega arith)) ∙ or_left _ _ (eq-eqb n n refl))
      second
  right (return e) inside n test rest f a r = right e inside n None _ f tt (record { once = r.once; ahead = r.ahead })
  right (end e) inside n test rest f a r = right e inside n None _ f tt (record { once = r.once; ahead = r.ahead })
  right (fix members e) inside n test rest f a r =
      let inner = stored_right (filter inside (member_variables members)) _ (right e inside n test rest f a r) in
      record { once = inner.once; ahead = inner.ahead }
  right (call x restores) inside n test rest f a r =
      let q = leave_right test n rest a r in
      record { once = ap without_repeats (call_labels x restores inside n test rest) ∙ r.once; ahead = call_ahead x restores inside n test rest ∙ q.ahead }
  right (tail_call x) inside n test rest f a r = record { once = ap without_repeats (tail_labels x inside n test rest) ∙ r.once; ahead = tail_ahead x inside n test rest ∙ r.ahead }
  right (save saves e) inside n test rest f a r = stored_right (heads e saves) _ (right e (with_region saves inside) n test rest f a r)

  -- each label is below a number
  abbrev below : ℕ → List Instruction → Bool
  below most rest = list_all (λ l. nat_lt l most) (labels_in rest)

  stored_below : (xs : List ℕ) (rest : List Instruction) (most : ℕ) → below most rest ≡ true → below most (stored plan xs rest) ≡ true
  stored_below xs rest most h = ap (list_all (λ l. nat_lt l most)) (stored_labels xs rest) ∙ h

  pub lay_below : (e : Expression) (inside : ℕ → Bool) (n : ℕ) (test : Option ℕ) (rest : List Instruction) (most : ℕ) → n + labels e ≤ most → below most rest ≡ true
      → below most (lay plan e inside n test rest) ≡ true
  lay_below (perform o) inside n test rest most le h = ap (list_all (λ l. nat_lt l most)) (leave_labels test rest) ∙ h
  lay_below (bind x a b) inside n test rest most le h =
      lay_below a inside n None _ most (omega (arith, le))
      (ap (list_all (λ l. nat_lt l most)) (bound_labels x _) ∙ stored_below (filter inside (x ∷ [])) _ most (lay_below b inside (n + labels a) test rest most (omega (arith, le)) h))
  lay_below (sequence a b) inside n test rest most le h = lay_below a inside n None _ most (omega (arith, le)) (lay_below b inside (n + labels a) test rest most (omega (arith, le)) h)
  lay_below (branch a b c) inside n test rest most le h =
      lay_below a inside (suc (suc n)) (Some n) _ most (omega (arith, le))
      (lay_below b inside (suc (suc (n + labels a))) test _ most (omega (arith, le))
      (and_from _ _ (lt-ltb n most (omega (arith, le)))
      (lay_below c inside (suc (suc (n + labels a + labels b))) test _ most (omega (arith, le))
      (and_from _ _ (lt-ltb (suc n) most (omega (arith, le))) h))))
  lay_below (return e) inside n test rest most le h = lay_below e inside n None _ most le h
  lay_below (end e) inside n test rest most le h = lay_below e inside n None _ most le h
  lay_below (fix members e) inside n test rest most le h = stored_below (filter inside (member_variables members)) _ most (lay_below e inside n test rest most le h)
  lay_below (call a restores) inside n test rest most le h = ap (list_all (λ l. nat_lt l most)) (call_labels a restores inside n test rest) ∙ h
  lay_below (tail_call a) inside n test rest most le h = ap (list_all (λ l. nat_lt l most)) (tail_labels a inside n test rest) ∙ h
  lay_below (save saves e) inside n test rest most le h = stored_below (heads e saves) _ most (lay_below e (with_region saves inside) n test rest most le h)
