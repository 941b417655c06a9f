-- A layout with few copies has no more to do, and no more copies, than is counted of its tree with variables in registers.
use Rattle.std.proofs.Common.{◌≡◌, ℕ, suc, ◌+◌, ◌*◌, ◌≤◌, List, [], ◌∷◌, length, Option, Some, None, Bool, true, false, cond, refl, ap, arith}
use Rattle.std.specs.Prelude.{filter}
use Rattle.std.proofs.lemmas.List.{length-map}
use Rattle.std.specs.Option.{unwrap_or, option_len}
use Rattle.sch_word.specs.declared.mark.MarkKind.{MarkKind}
use Rattle.sch_word.specs.declared.mark.MarkKind.TheVariants as mark
use Rattle.sch_word.specs.declared.place.Place.{Place}
use Rattle.sch_control.specs.declared.body.Entry.{Entry}
use Rattle.sch_control.specs.declared.operation.Member.{Member}
use Rattle.sch_control.specs.Meaning.{heads, no_region, with_region}
use Rattle.sch_control.specs.RegisterWork.{code_copies, code_done, entry_copies, entry_done, expression_copies, expression_done, most_kept}
use Rattle.sch_control.specs.Tree.{Code, Expression, perform, bind, sequence, branch, fix, call, tail_call, return, end, save}
use Rattle.sch_control.specs.Valid.{member_variables}
use Rattle.sch_control.specs.Work.{code_work, codes_work}
use Rattle.sch_control.specs.flow.Bare.{erased}
use Rattle.sch_control.proofs.RegisterUnits.{codes_fit}
use Rattle.sch_frames.specs.declared.instruction.Instruction.{Instruction}
use Rattle.sch_frames.specs.declared.instruction.Instruction.TheVariants.{Call, Copy, End, Jump, Label, Mark, Return, Store, Tail}
use Rattle.sch_word.specs.values.Places.{is_slot}
use Rattle.sch_frames.specs.Sizes as frames
use Rattle.sch_frames.specs.Sizes.{closures_in, codes_size, copies_of}
use Rattle.sch_frames.specs.Tree as frame_tree
use Rattle.sch_layout.specs.BodyLayout.{Plan, carried, entering, labels, lay, leave, loaded, member_at, spill, stored, under}
use Rattle.sch_control.specs.flow.Places.{variable_arrival}
use Rattle.sch_layout.specs.FewCopies.{Few, FewCopiesFit, MayStand, body_layout, in_registers, most_saved, work_in}
use Rattle.sch_layout.proofs.EntryCopies.{entering_less, spill_has}
use Rattle.sch_layout.proofs.layouts.LayoutSize.{members_kept, operation_kept}

-- a value that is tested is followed by the test
tested_once : (test : Option ℕ) → option_len test ≤ 1
tested_once None = omega arith
tested_once (Some l) = omega arith

leave_done : (test : Option ℕ) (rest : List Instruction) → work_in (leave test rest) ≡ option_len test + work_in rest
leave_done None rest = omega arith
leave_done (Some l) rest = omega arith

leave_copies : (test : Option ℕ) (rest : List Instruction) → copies_of (leave test rest) ≡ copies_of rest
leave_copies None rest = refl
leave_copies (Some l) rest = omega arith

module _ (plan : Plan) where
  -- ## What is saved and restored

  carried_done : (kind : ℕ → MarkKind) (to from : ℕ → Place) (xs : List ℕ) (rest : List Instruction) → work_in (carried plan kind to from xs rest) ≡ work_in rest
  carried_done kind to from [] rest = refl
  carried_done kind to from (x ∷ xs) rest = by (is_slot (plan.place x)) (carried_done kind to from xs rest)
    where
      by : (b : Bool) → work_in (carried plan kind to from xs rest) ≡ work_in rest
          → work_in (cond b (carried plan kind to from xs rest) (Mark (kind x) ∷ (Copy (to x) (from x) ∷ carried plan kind to from xs rest))) ≡ work_in rest
      by true h = h
      by false h = omega (arith, h)

  carried_copies : (kind : ℕ → MarkKind) (to from : ℕ → Place) (xs : List ℕ) (rest : List Instruction) → copies_of (carried plan kind to from xs rest) ≡ in_registers plan xs + copies_of rest
  carried_copies kind to from [] rest = omega arith
  carried_copies kind to from (x ∷ xs) rest = by (is_slot (plan.place x)) (carried_copies kind to from xs rest)
    where
      by : (b : Bool) → copies_of (carried plan kind to from xs rest) ≡ in_registers plan xs + copies_of rest
          → copies_of (cond b (carried plan kind to from xs rest) (Mark (kind x) ∷ (Copy (to x) (from x) ∷ carried plan kind to from xs rest)))
          ≡ cond b 0 1 + in_registers plan xs + copies_of rest
      by true h = omega (arith, h)
      by false h = omega (arith, h)

  registers_few : (inside : ℕ → Bool) (xs : List ℕ) → in_registers plan (filter inside xs) ≤ length xs
  registers_few inside [] = omega arith
  registers_few inside (x ∷ xs) = by (inside x) (is_slot (plan.place x)) (registers_few inside xs)
    where
      one : (d : Bool) → cond {A = ℕ} d 0 1 ≤ 1
      one true = omega arith
      one false = omega arith

      by : (b d : Bool) → in_registers plan (filter inside xs) ≤ length xs → in_registers plan (cond b (x ∷ filter inside xs) (filter inside xs)) ≤ suc (length xs)
      by true d h = let o = one (is_slot (plan.place x)) in omega (arith, o, h)
      by false d h = omega (arith, h)

  members_length : (members : List (Member ℕ)) → length (member_variables members) ≡ length members
  members_length [] = refl
  members_length (m ∷ members) = ap suc (members_length members)

  bound_done : (x : ℕ) (rest : List Instruction) → work_in (under (spill plan x) (Store (plan.place x)) rest) ≡ work_in rest
  bound_done x rest = spill_has (λ m. work_in (under m (Store (plan.place x)) rest) ≡ work_in rest) plan x (omega arith) (omega arith)

  bound_copies : (x : ℕ) (rest : List Instruction) → copies_of (under (spill plan x) (Store (plan.place x)) rest) ≡ suc (copies_of rest)
  bound_copies x rest = spill_has (λ m. copies_of (under m (Store (plan.place x)) rest) ≡ suc (copies_of rest)) plan x (omega arith) (omega arith)

  -- ## Expressions

  -- no more are saved at the head of a region than may be
  stands_within : (head : Option ℕ) (saved : ℕ) → MayStand plan head saved → saved ≤ unwrap_or head 0
  stands_within None saved h = absurd h
  stands_within (Some most) saved h = h

  lay_done : (head : Option ℕ) (e : Expression) (inside : ℕ → Bool) (n : ℕ) (test : Option ℕ) (rest : List Instruction) → Few plan head e
      → work_in (lay plan e inside n test rest) ≤ expression_done e + option_len test + work_in rest
  lay_done head (perform o) inside n test rest f = let h = leave_done test rest in let k = operation_kept plan.place o in omega (arith, h, k)
  lay_done head (bind x a b) inside n test rest f =
      let after = lay plan b inside (n + labels a) test rest in
      let h = lay_done None a inside n None (under (spill plan x) (Store (plan.place x)) (stored plan (filter inside (x ∷ [])) after)) f.0 in
      let k = lay_done None b inside (n + labels a) test rest f.1 in
      omega (arith, h, k, bound_done x (stored plan (filter inside (x ∷ [])) after), carried_done mark.Save plan.home plan.place (filter inside (x ∷ [])) after)
  lay_done head (sequence a b) inside n test rest f =
      let h = lay_done None a inside n None (lay plan b inside (n + labels a) test rest) f.0 in
      let k = lay_done None b inside (n + labels a) test rest f.1 in
      omega (arith, h, k)
  lay_done head (branch a b c) inside n test rest f =
      let second = lay plan c inside (suc (suc (n + labels a + labels b))) test (Label (suc n) ∷ rest) in
      let first = lay plan b inside (suc (suc (n + labels a))) test (Jump (suc n) ∷ (Label n ∷ second)) in
      let h = lay_done None a inside (suc (suc n)) (Some n) first f.0 in
      let k = lay_done (Some most_kept) b inside (suc (suc (n + labels a))) test (Jump (suc n) ∷ (Label n ∷ second)) f.1.0 in
      let l = lay_done (Some most_kept) c inside (suc (suc (n + labels a + labels b))) test (Label (suc n) ∷ rest) f.1.1 in
      omega (arith, h, k, l, tested_once test)
  lay_done head (fix members e) inside n test rest f =
      let after = lay plan e inside n test rest in
      let h = lay_done None e inside n test rest f in
      omega (arith, h, members_kept plan.place members, length-map members (member_at plan.place), carried_done mark.Save plan.home plan.place (filter inside (member_variables members)) after)
  lay_done head (call a restores) inside n test rest f =
      let h = f.1.done (Mark (mark.Call a.site) ∷ (Call a.spread (length a.operands) ∷ loaded plan restores (leave test rest))) in
      omega (arith, h, carried_done mark.Restore plan.place plan.home restores (leave test rest), leave_done test rest)
  lay_done head (tail_call a) inside n test rest f = let h = f.done (Mark (mark.Tail a.site) ∷ (Tail a.spread (length a.operands) ∷ rest)) in omega (arith, h)
  lay_done head (return e) inside n test rest f = let h = lay_done None e inside n None (Mark mark.Return ∷ (Return ∷ rest)) f in omega (arith, h)
  lay_done head (end e) inside n test rest f = let h = lay_done None e inside n None (End ∷ rest) f in omega (arith, h)
  lay_done head (save saves e) inside n test rest f =
      let h = lay_done None e (with_region saves inside) n test rest f.1 in
      omega (arith, h, carried_done mark.Save plan.home plan.place (heads e saves) (lay plan e (with_region saves inside) n test rest))

  lay_copies : (head : Option ℕ) (e : Expression) (inside : ℕ → Bool) (n : ℕ) (test : Option ℕ) (rest : List Instruction) → Few plan head e
      → copies_of (lay plan e inside n test rest) ≤ unwrap_or head 0 + expression_copies e + copies_of rest
  lay_copies head (perform o) inside n test rest f = let h = leave_copies test rest in omega (arith, h)
  lay_copies head (bind x a b) inside n test rest f =
      let after = lay plan b inside (n + labels a) test rest in
      let h = lay_copies None a inside n None (under (spill plan x) (Store (plan.place x)) (stored plan (filter inside (x ∷ [])) after)) f.0 in
      let k = lay_copies None b inside (n + labels a) test rest f.1 in
      omega (arith, h, k, bound_copies x (stored plan (filter inside (x ∷ [])) after), carried_copies mark.Save plan.home plan.place (filter inside (x ∷ [])) after, registers_few inside (x ∷ []))
  lay_copies head (sequence a b) inside n test rest f =
      let h = lay_copies None a inside n None (lay plan b inside (n + labels a) test rest) f.0 in
      let k = lay_copies None b inside (n + labels a) test rest f.1 in
      omega (arith, h, k)
  lay_copies head (branch a b c) inside n test rest f =
      let second = lay plan c inside (suc (suc (n + labels a + labels b))) test (Label (suc n) ∷ rest) in
      let first = lay plan b inside (suc (suc (n + labels a))) test (Jump (suc n) ∷ (Label n ∷ second)) in
      let h = lay_copies None a inside (suc (suc n)) (Some n) first f.0 in
      let k = lay_copies (Some most_kept) b inside (suc (suc (n + labels a))) test (Jump (suc n) ∷ (Label n ∷ second)) f.1.0 in
      let l = lay_copies (Some most_kept) c inside (suc (suc (n + labels a + labels b))) test (Label (suc n) ∷ rest) f.1.1 in
      omega (arith, h, k, l)
  lay_copies head (fix members e) inside n test rest f =
      let after = lay plan e inside n test rest in
      let h = lay_copies None e inside n test rest f in
      omega (arith, h, carried_copies mark.Save plan.home plan.place (filter inside (member_variables members)) after, registers_few inside (member_variables members), members_length members)
  lay_copies head (call a restores) inside n test rest f =
      let h = f.1.copies (Mark (mark.Call a.site) ∷ (Call a.spread (length a.operands) ∷ loaded plan restores (leave test rest))) in
      omega (arith, h, f.0, carried_copies mark.Restore plan.place plan.home restores (leave test rest), leave_copies test rest)
  lay_copies head (tail_call a) inside n test rest f = let h = f.copies (Mark (mark.Tail a.site) ∷ (Tail a.spread (length a.operands) ∷ rest)) in omega (arith, h)
  lay_copies head (return e) inside n test rest f = let h = lay_copies None e inside n None (Mark mark.Return ∷ (Return ∷ rest)) f in omega (arith, h)
  lay_copies head (end e) inside n test rest f = let h = lay_copies None e inside n None (End ∷ rest) f in omega (arith, h)
  lay_copies head (save saves e) inside n test rest f =
      let h = lay_copies None e (with_region saves inside) n test rest f.1 in
      let within = stands_within head (in_registers plan (heads e saves)) f.0 in
      omega (arith, h, within, carried_copies mark.Save plan.home plan.place (heads e saves) (lay plan e (with_region saves inside) n test rest))

  -- ## Bodies

  entering_done : (entry : Option Entry) (rest : List Instruction) → work_in (entering plan entry rest) + entry_done entry ≤ entry_done entry + work_in rest
  entering_done None rest = omega arith
  entering_done (Some e) rest =
      let h = entering_less plan (λ is. work_in is) 0
      (λ x rest. spill_has (λ m. work_in (under m (Copy (plan.place x) (variable_arrival x)) rest) ≤ 0 + work_in rest) plan x (omega arith) (omega arith)) (Some e) rest in
      omega (arith, h)

  entering_copies : (entry : Option Entry) (rest : List Instruction) → most_saved plan entry + copies_of (entering plan entry rest) ≤ entry_copies entry + copies_of rest
  entering_copies None rest = omega arith
  entering_copies (Some e) rest =
      let h = entering_less plan (λ is. copies_of is) 1
      (λ x rest. spill_has (λ m. copies_of (under m (Copy (plan.place x) (variable_arrival x)) rest) ≤ 1 + copies_of rest) plan x (omega arith) (omega arith)) (Some e) rest in
      omega (arith, h)

  body_done : (entry : Option Entry) (e : Expression) → Few plan (Some (most_saved plan entry)) e → work_in (body_layout plan entry e) + entry_done entry ≤ entry_done entry + expression_done e
  body_done entry e f =
      let h = lay_done (Some (most_saved plan entry)) e no_region 0 None [] f in
      let k = entering_done entry (lay plan e no_region 0 None []) in
      omega (arith, h, k)

  body_copies : (entry : Option Entry) (e : Expression) → Few plan (Some (most_saved plan entry)) e → copies_of (body_layout plan entry e) ≤ entry_copies entry + expression_copies e
  body_copies entry e f =
      let h = lay_copies (Some (most_saved plan entry)) e no_region 0 None [] f in
      let k = entering_copies entry (lay plan e no_region 0 None []) in
      omega (arith, h, k)

-- ## Without regions and restores

done_erased : (e : Expression) → expression_done (erased e) ≡ expression_done e
done_erased (perform o) = refl
done_erased (bind x a b) = let h = done_erased a in let k = done_erased b in omega (arith, h, k)
done_erased (sequence a b) = let h = done_erased a in let k = done_erased b in omega (arith, h, k)
done_erased (branch a b c) = let h = done_erased a in let k = done_erased b in let l = done_erased c in omega (arith, h, k, l)
done_erased (fix members e) = let h = done_erased e in omega (arith, h)
done_erased (call a restores) = refl
done_erased (tail_call a) = refl
done_erased (return e) = let h = done_erased e in omega (arith, h)
done_erased (end e) = let h = done_erased e in omega (arith, h)
done_erased (save saves e) = done_erased e

copies_erased : (e : Expression) → expression_copies (erased e) ≡ expression_copies e
copies_erased (perform o) = refl
copies_erased (bind x a b) = let h = copies_erased a in let k = copies_erased b in omega (arith, h, k)
copies_erased (sequence a b) = let h = copies_erased a in let k = copies_erased b in omega (arith, h, k)
copies_erased (branch a b c) = let h = copies_erased a in let k = copies_erased b in let l = copies_erased c in omega (arith, h, k, l)
copies_erased (fix members e) = let h = copies_erased e in omega (arith, h)
copies_erased (call a restores) = refl
copies_erased (tail_call a) = refl
copies_erased (return e) = copies_erased e
copies_erased (end e) = copies_erased e
copies_erased (save saves e) = copies_erased e

pub few_copies_fit : FewCopiesFit
few_copies_fit plan entry e f =
    let c : Code = record { name = []; entry = entry; variables = 0; expression = erased e } in
    let units : 64 * (code_done c + 0) + 8 * (code_copies c + 0) ≤ 72 * (code_work c + 0) = codes_fit (c ∷ []) in
    omega (arith, body_done plan entry e f, body_copies plan entry e f, done_erased e, copies_erased e, units)

-- ## All bodies of a program

-- each body is laid out within the units of its own
abbrev pub EachFits : List Code → List frame_tree.Code → Type 0
EachFits [] [] = Unit {0}
EachFits (c ∷ cs) (f ∷ fs) = (64 * frames.code_work f + 8 * copies_of f.instructions ≤ 72 * code_work c) × EachFits cs fs
EachFits _ _ = ⊥

pub each_fits : (cs : List Code) (fs : List frame_tree.Code) → EachFits cs fs → 64 * (codes_size fs + closures_in fs) + 8 * frames.codes_copies fs ≤ 72 * codes_work cs
each_fits [] [] h = omega arith
each_fits [] (f ∷ fs) h = absurd h
each_fits (c ∷ cs) [] h = absurd h
each_fits (c ∷ cs) (f ∷ fs) h = let k = each_fits cs fs h.1 in omega (arith, h.0, k)
