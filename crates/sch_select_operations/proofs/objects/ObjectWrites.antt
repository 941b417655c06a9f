-- Objects are made in bytes of the heap that are free, and are written in their own part.
use Rattle.std.proofs.Common.{◌≡◌, ℕ, zero, suc, ◌+◌, ◌*◌, ◌≤◌, List, [], ◌∷◌, ◌++◌, length, Bool, true, false}
use Rattle.std.proofs.Common.{Option, Some, None, refl, sym, ap, ◌∙◌, subst, arith, ◌⊎◌, inl, inr, ⊎_elim, ◌==◌, ◌||◌}
use Rattle.std.specs.Prelude.{slice_get, slice_set}
use Rattle.std.proofs.lemmas.Bool.{eqb-true}
use Rattle.std.proofs.lemmas.Option.{slice_get_within}
use Rattle.sch_word.specs.declared.answer.Answer.{Answer}
use Rattle.sch_word.specs.values.Values.{Object, pair, vector, string}
use Rattle.sch_word.specs.values.PrimitiveRows.{is_pair, is_vector, is_string}
use Rattle.sch_word.specs.runs.Computation.{State}
use Rattle.sch_word.proofs.facts.Lists.{get_seam}
use Rattle.sch_word.specs.runs.Procedures.{Procedure}
use Rattle.sch_select_memory.specs.Parts.{Owner, a_procedure, a_cell, a_pair, a_vector, a_string, same_owner, Part, Parts, Spot}
use Rattle.sch_select_memory.specs.Parts.{end_of, spot, grown}
use Rattle.sch_select_memory.specs.Heap.{ObjectAt, AreKinds, AreNew, owner_of}
use Rattle.sch_select_memory.proofs.heap.Spots.{spot_within, spots_apart, spot_newest, spot_other, end_grown, among}
use Rattle.sch_select_memory.proofs.heap.Ranges.{BytesStay}
use Rattle.sch_select_memory.proofs.heap.Contents.{KindsOf, objects_grow, objects_stay, each_of, words_stay, object_no_cell, object_no_procedure}
use Rattle.sch_select_memory.proofs.heap.Objects.{same_kind, object_set}
use Rattle.sch_select_memory.proofs.Places.{Plan, code_of, StoreAt, store_changed}
use Rattle.sch_select_memory.proofs.HeapWrites.{Wrote}

-- ---- the number of the next object

past_end : {A : Type 0} (xs : List A) → slice_get xs (length xs) ≡ None
past_end [] = refl
past_end (x ∷ xs) = past_end xs

-- it has no part
pub next_object_new : (parts : Parts) (objects : List Object) → AreKinds parts objects → (o : Object)
    → spot parts (owner_of (length objects) o) ≡ None
next_object_new parts objects kinds o = by o (spot parts (owner_of (length objects) o)) refl
  where
    never : (test : Option Object → Bool) → test None ≡ false → test (slice_get objects (length objects)) ≡ true → ⊥
    never test none e = let bad : false ≡ true = sym none ∙ sym (ap test (past_end objects)) ∙ e in cc

    by : (o : Object) (s : Option Spot) → spot parts (owner_of (length objects) o) ≡ s
        → spot parts (owner_of (length objects) o) ≡ None
    by o None e = e
    by (pair a d) (Some at) e = absurd (never is_pair refl (kinds.pairs (length objects) at e))
    by (vector vs) (Some at) e = absurd (never is_vector refl (kinds.vectors (length objects) at e))
    by (string bs) (Some at) e = absurd (never is_string refl (kinds.strings (length objects) at e))

-- the part of a new object
abbrev pub object_part : (objects : List Object) → Object → (more : ℕ) → List Part
object_part objects o more = record { owner = owner_of (length objects) o; more = more } ∷ []

-- it lies behind the others
pub next_object_spot : (parts : Parts) (objects : List Object) → AreKinds parts objects → (o : Object) (more : ℕ)
    → spot (grown parts (object_part objects o more)) (owner_of (length objects) o)
    ≡ Some (record { unit = end_of parts; more = more })
next_object_spot parts objects kinds o more = spot_newest parts (owner_of (length objects) o) more []
    (next_object_new parts objects kinds o)

-- its kind is that of its part
object_kinds : (objects : List Object) (o : Object) (more : ℕ)
    → KindsOf (object_part objects o more) (objects ++ o ∷ [])
object_kinds objects o more = record
    { pairs = λ n e. pairs o n e; vectors = λ n e. vectors o n e; strings = λ n e. strings o n e }
  where
    same : (n : ℕ) (b : Bool) → (length objects == n) ≡ b → (b || false) ≡ true → length objects ≡ n
    same n true e f = eqb-true (length objects) n e
    same n false e f = absurd (let bad : false ≡ true = f in cc)

    kept : (test : Option Object → Bool) (o : Object) (n : ℕ) → test (Some o) ≡ true
        → ((length objects == n) || false) ≡ true → test (slice_get (objects ++ o ∷ []) n) ≡ true
    kept test o n is e =
        subst (λ n. test (slice_get (objects ++ o ∷ []) n) ≡ true) (same n (length objects == n) refl e)
        (ap test (get_seam objects [] o) ∙ is)

    pairs : (o : Object) (n : ℕ) → among (object_part objects o more) (a_pair n) ≡ true
        → is_pair (slice_get (objects ++ o ∷ []) n) ≡ true
    pairs (pair a d) n e = kept is_pair (pair a d) n refl e
    pairs (vector vs) n e = absurd (let bad : false ≡ true = e in cc)
    pairs (string bs) n e = absurd (let bad : false ≡ true = e in cc)

    vectors : (o : Object) (n : ℕ) → among (object_part objects o more) (a_vector n) ≡ true
        → is_vector (slice_get (objects ++ o ∷ []) n) ≡ true
    vectors (vector vs) n e = kept is_vector (vector vs) n refl e
    vectors (pair a d) n e = absurd (let bad : false ≡ true = e in cc)
    vectors (string bs) n e = absurd (let bad : false ≡ true = e in cc)

    strings : (o : Object) (n : ℕ) → among (object_part objects o more) (a_string n) ≡ true
        → is_string (slice_get (objects ++ o ∷ []) n) ≡ true
    strings (string bs) n e = kept is_string (string bs) n refl e
    strings (pair a d) n e = absurd (let bad : false ≡ true = e in cc)
    strings (vector vs) n e = absurd (let bad : false ≡ true = e in cc)

object_taken : (parts : Parts) (objects : List Object) (o : Object) (more cells procedures : ℕ)
    → AreNew parts cells procedures → AreNew (grown parts (object_part objects o more)) cells procedures
object_taken parts objects o more cells procedures new = record {
  cell = λ n le. spot_other parts (a_cell n) (owner_of (length objects) o) more (new.cell n le)
      (object_no_cell (length objects) n o);
  procedure = λ n le. spot_other parts (a_procedure n) (owner_of (length objects) o) more (new.procedure n le)
      (object_no_procedure (length objects) n o);
}

module _ (plan : Plan) where
  open plan use {literals, globals, names, closures, heap, stack, closures_low}

  -- ---- a new object, whose part is filled

  pub object_added : (parts : Parts) (s : State Procedure) (bytes : List ℕ) (output : List ℕ) (answers : List Answer)
      (o : Object) (more total : ℕ) → 16 * suc more ≡ total → heap + (s.store.charged + total) ≤ stack
      → ObjectAt (grown parts (object_part s.store.objects o more)) bytes (length s.store.objects) o
      → StoreAt plan parts s bytes output answers
      → StoreAt plan (grown parts (object_part s.store.objects o more))
      (record s {
        store = record s.store
            { objects = s.store.objects ++ o ∷ []; charged = s.store.charged + total };
      }) bytes output answers
  object_added parts s bytes output answers o more total taken room filled g =
      let others = object_part s.store.objects o more in
      let e = g.ends in let n = end_grown parts others in
      store_changed plan parts (grown parts others) s s.cells s.procedures (s.store.objects ++ o ∷ [])
      (s.store.charged + total) bytes bytes output answers (words_stay parts others) g.begins g.known refl
      (λ a n lo hi. refl) room (omega (arith, e, n, taken))
      (objects_grow (code_of plan) parts others s.cells s.procedures s.store.objects (s.store.objects ++ o ∷ []) bytes
      (objects_stay s.store.objects (o ∷ [])) (object_kinds s.store.objects o more)
      (each_of s.store.objects (o ∷ [])
      (λ n p. (slice_get s.store.objects n ≡ Some p) ⊎ ObjectAt (grown parts others) bytes n p) (λ n p e. inl e)
      (λ i p e. inr (one i p e))) g.contents)
      (object_taken parts s.store.objects o more (length s.cells) (length s.procedures) g.new) g
    where
      one : (i : ℕ) (p : Object) → slice_get (o ∷ []) i ≡ Some p
          → ObjectAt (grown parts (object_part s.store.objects o more)) bytes (length s.store.objects + i) p
      one zero p e =
          let is : o ≡ p = cc in
          let z : length s.store.objects ≡ length s.store.objects + 0 = omega arith in
          subst (λ n. ObjectAt (grown parts (object_part s.store.objects o more)) bytes n p) z
          (subst (ObjectAt (grown parts (object_part s.store.objects o more)) bytes (length s.store.objects)) is filled)
      one (suc i) p e = absurd (let bad : None ≡ Some p = e in cc)

  -- ---- an object is written, in its own part alone

  pub object_written : (parts : Parts) (s : State Procedure) (bytes bytes' : List ℕ) (output : List ℕ)
      (answers : List Answer) (n : ℕ) (o p : Object) (at : Spot) → slice_get s.store.objects n ≡ Some o
      → same_kind o p ≡ true → spot parts (owner_of n p) ≡ Some at
      → Wrote (16 * at.unit) (16 * at.unit + 16 * suc at.more) bytes bytes' → ObjectAt parts bytes' n p
      → StoreAt plan parts s bytes output answers → StoreAt plan parts
      (record s { store = record s.store { objects = slice_set s.store.objects n p } }) bytes' output answers
  object_written parts s bytes bytes' output answers n o p at there kind spotted wrote filled g =
      let lo = (spot_within parts (owner_of n p) at spotted).0 in
      let b = g.begins in
      store_changed plan parts parts s s.cells s.procedures (slice_set s.store.objects n p) s.store.charged bytes
      bytes' output answers (λ v x h. h) g.begins g.known wrote.size
      (λ a k l h. wrote.pieces a k (omega (arith, l)) (inl (omega (arith, h, lo, b)))) g.within g.ends
      (object_set (code_of plan) parts s.cells s.procedures s.store.objects bytes bytes' n o p
      (slice_get_within s.store.objects n o there) there kind others filled g.contents) g.new g
    where
      others : (w : Owner) (t : Spot) → spot parts w ≡ Some t → same_owner w (owner_of n p) ≡ false
          → BytesStay (16 * t.unit) (16 * t.unit + 16 * suc t.more) bytes bytes'
      others w t e other a k l h =
          let first = (spot_within parts w t e).0 in
          let b = g.begins in let cl = closures_low in
          wrote.pieces a k (omega (arith, l, first, b, cl))
          (⊎_elim (λ le. inl (omega (arith, le, h))) (λ le. inr (omega (arith, le, l)))
          (spots_apart parts w (owner_of n p) t at e spotted other))
