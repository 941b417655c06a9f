-- The pairs of a list that is made as a whole become objects.
use Rattle.std.proofs.Common.{◌≡◌, ℕ, zero, suc, ◌+◌, ◌*◌, ◌^◌, ◌<◌, ◌≤◌, List, [], ◌∷◌, ◌++◌, length, Bool, true, false}
use Rattle.std.proofs.Common.{Option, Some, None, refl, sym, ap, ◌∙◌, subst, arith, ◌⊎◌, inl, inr, ◌==◌, ◌||◌, append_assoc}
use Rattle.std.specs.Prelude.{slice_get}
use Rattle.std.proofs.lemmas.Bool.{eqb-true, ne_eqb}
use Rattle.std.proofs.lemmas.Option.{slice_get_past}
use Rattle.std.proofs.lemmas.List.{append-nil}
use Rattle.sch_word.specs.declared.answer.Answer.{Answer}
use Rattle.sch_word.specs.values.Values.{Value, nil, object, Object, pair}
use Rattle.sch_word.specs.values.PrimitiveRows.{is_pair}
use Rattle.sch_word.specs.runs.Charges.{linked, list_value}
use Rattle.sch_word.specs.runs.Computation.{State}
use Rattle.sch_word.proofs.facts.Lists.{get_behind}
use Rattle.sch_word.specs.runs.Procedures.{Procedure}
use Rattle.sch_asm.specs.Data.{word_in}
use Rattle.sch_select_memory.specs.Parts.{a_procedure, a_cell, a_pair, a_vector, a_string, Part, Parts, Spot, end_of, units}
use Rattle.sch_select_memory.specs.Parts.{spot, grown}
use Rattle.sch_select_memory.specs.Encoded.{IsWord, Words}
use Rattle.sch_select_memory.specs.Heap.{ObjectAt, AreKinds, AreNew}
use Rattle.sch_select_memory.proofs.heap.Spots.{spot_newest, spot_other, end_grown, among}
use Rattle.sch_select_memory.proofs.heap.Contents.{KindsOf, objects_grow, objects_stay, each_of, words_stay}
use Rattle.sch_select_memory.proofs.Places.{Plan, code_of, Activation, StoreAt, store_changed}
use Rattle.sch_select_memory.proofs.lists.RestLoop.{PairsFrom}
use Rattle.sch_select_memory.proofs.lists.RestRegisters.{ListAt, list_word}

-- the parts of some pairs, numbered from one on
abbrev pub pair_parts : ℕ → List Value → List Part
pair_parts n [] = []
pair_parts n (v ∷ vs) = record { owner = a_pair n; more = 0 } ∷ pair_parts (suc n) vs

pub pair_units : (n : ℕ) (vs : List Value) → units (pair_parts n vs) ≡ length vs
pair_units n [] = refl
pair_units n (v ∷ vs) = let h = pair_units (suc n) vs in omega (arith, h)

-- ---- where they are

-- pairs from a number on have no parts
abbrev NoneFrom : Parts → ℕ → Type 0
NoneFrom parts n = (k : ℕ) → n ≤ k → spot parts (a_pair k) ≡ None

-- the parts with one of a pair
abbrev with_pair : Parts → ℕ → Parts
with_pair parts n = grown parts (record { owner = a_pair n; more = 0 } ∷ [])

grown_twice : (parts : Parts) (n : ℕ) (others : List Part)
    → grown (with_pair parts n) others ≡ grown parts (record { owner = a_pair n; more = 0 } ∷ others)
grown_twice parts n others = ap (λ l. record parts { list = l })
    (append_assoc parts.list (record { owner = a_pair n; more = 0 } ∷ []) others)

none_behind : (parts : Parts) (n : ℕ) → NoneFrom parts n → NoneFrom (with_pair parts n) (suc n)
none_behind parts n none k le = spot_other parts (a_pair k) (a_pair n) 0 (none k (omega (arith, le)))
    (ne_eqb n k (λ e. omega (arith, e, le)))

pub pair_spot : (parts : Parts) (n : ℕ) (vs : List Value) → NoneFrom parts n → (i : ℕ) → i < length vs
    → spot (grown parts (pair_parts n vs)) (a_pair (n + i)) ≡ Some (record { unit = end_of parts + i; more = 0 })
pair_spot parts n [] none i lt = absurd (omega (arith, lt))
pair_spot parts n (v ∷ vs) none zero lt =
    let z : n + 0 ≡ n = omega arith in let u : end_of parts + 0 ≡ end_of parts = omega arith in
    ap (λ k. spot (grown parts (pair_parts n (v ∷ vs))) (a_pair k)) z
    ∙ spot_newest parts (a_pair n) 0 (pair_parts (suc n) vs) (none n (omega arith))
    ∙ ap (λ u. Some (record { unit = u; more = 0 })) (sym u)
pair_spot parts n (v ∷ vs) none (suc i) lt =
    let z : n + suc i ≡ suc n + i = omega arith in
    let e = end_grown parts (record { owner = a_pair n; more = 0 } ∷ []) in
    let u : end_of (with_pair parts n) + i ≡ end_of parts + suc i = omega (arith, e) in
    ap (λ k. spot (grown parts (pair_parts n (v ∷ vs))) (a_pair k)) z
    ∙ ap (λ p. spot p (a_pair (suc n + i))) (sym (grown_twice parts n (pair_parts (suc n) vs)))
    ∙ pair_spot (with_pair parts n) (suc n) vs (none_behind parts n none) i (omega (arith, lt))
    ∙ ap (λ u. Some (record { unit = u; more = 0 })) u

-- pairs are no cells and no procedures
pub pairs_taken : (parts : Parts) (n : ℕ) (vs : List Value) (cells procedures : ℕ) → AreNew parts cells procedures
    → AreNew (grown parts (pair_parts n vs)) cells procedures
pairs_taken parts n [] cells procedures new = subst (λ p. AreNew p cells procedures)
    (ap (λ l. record parts { list = l }) (sym (append-nil parts.list))) new
pairs_taken parts n (v ∷ vs) cells procedures new = subst (λ p. AreNew p cells procedures)
    (grown_twice parts n (pair_parts (suc n) vs))
    (pairs_taken (with_pair parts n) (suc n) vs cells procedures (record {
      cell = λ k le. spot_other parts (a_cell k) (a_pair n) 0 (new.cell k le) refl;
      procedure = λ k le. spot_other parts (a_procedure k) (a_pair n) 0 (new.procedure k le) refl;
    }))

-- ---- their kinds

linked_pairs : (n : ℕ) (vs : List Value) (last : Value) (i : ℕ) → i < length vs
    → is_pair (slice_get (linked n vs last) i) ≡ true
linked_pairs n [] last i lt = absurd (omega (arith, lt))
linked_pairs n (v ∷ []) last zero lt = refl
linked_pairs n (v ∷ []) last (suc i) lt = absurd (omega (arith, lt))
linked_pairs n (v ∷ (w ∷ vs)) last zero lt = refl
linked_pairs n (v ∷ (w ∷ vs)) last (suc i) lt = linked_pairs (suc n) (w ∷ vs) last i (omega (arith, lt))

among_pairs : (n k : ℕ) (vs : List Value) → among (pair_parts n vs) (a_pair k) ≡ true
    → (i : ℕ) × (i < length vs) × (k ≡ n + i)
among_pairs n k [] e = absurd (let bad : false ≡ true = e in cc)
among_pairs n k (v ∷ vs) e = by (λ f. among_pairs (suc n) k vs f) (n == k) refl e
  where
    by : (among (pair_parts (suc n) vs) (a_pair k) ≡ true → (i : ℕ) × (i < length vs) × (k ≡ suc n + i))
        → (b : Bool) → (n == k) ≡ b → (b || among (pair_parts (suc n) vs) (a_pair k)) ≡ true
        → (i : ℕ) × (i < length (v ∷ vs)) × (k ≡ n + i)
    by behind true q f = let same = eqb-true n k q in (0, omega arith, omega (arith, same))
    by behind false q f = let h = behind f in
        let lt = h.1 in let is = h.2 in (suc h.0, omega (arith, lt), omega (arith, is))

no_vector : (n k : ℕ) (vs : List Value) → among (pair_parts n vs) (a_vector k) ≡ false
no_vector n k [] = refl
no_vector n k (v ∷ vs) = no_vector (suc n) k vs

no_string : (n k : ℕ) (vs : List Value) → among (pair_parts n vs) (a_string k) ≡ false
no_string n k [] = refl
no_string n k (v ∷ vs) = no_string (suc n) k vs

pair_kinds : (objects : List Object) (vs : List Value)
    → KindsOf (pair_parts (length objects) vs) (objects ++ linked (length objects) vs nil)
pair_kinds objects vs = record {
  pairs = λ k e. let h = among_pairs (length objects) k vs e in
      ap (λ k. is_pair (slice_get (objects ++ linked (length objects) vs nil) k)) h.2
      ∙ ap is_pair (get_behind objects (linked (length objects) vs nil) h.0)
      ∙ linked_pairs (length objects) vs nil h.0 h.1;
  vectors = λ k e. absurd (let bad : false ≡ true = sym (no_vector (length objects) k vs) ∙ e in cc);
  strings = λ k e. absurd (let bad : false ≡ true = sym (no_string (length objects) k vs) ∙ e in cc);
}

none_yet : (parts : Parts) (objects : List Object) → AreKinds parts objects → NoneFrom parts (length objects)
none_yet parts objects kinds k le = by (spot parts (a_pair k)) refl
  where
    by : (s : Option Spot) → spot parts (a_pair k) ≡ s → spot parts (a_pair k) ≡ None
    by None e = e
    by (Some at) e = absurd (let bad : false ≡ true = sym (ap is_pair (slice_get_past objects k le)) ∙ kinds.pairs k at e in cc)

module _ (plan : Plan) (act : Activation plan) (parts : Parts) where
  open plan use {heap, stack, near}

  -- ---- their words

  pairs_filled : (parts' : Parts) → Words parts parts' → (bytes : List ℕ) (a n unit : ℕ) (v : Value) (vs : List Value)
      → PairsFrom plan act parts bytes a v vs → a ≡ 16 * unit → a + 16 * length (v ∷ vs) < 2 ^ 32
      → ((i : ℕ) → i < length (v ∷ vs) → spot parts' (a_pair (n + i)) ≡ Some (record { unit = unit + i; more = 0 }))
      → (i : ℕ) (o : Object) → slice_get (linked n (v ∷ vs) nil) i ≡ Some o → ObjectAt parts' bytes (n + i) o
  pairs_filled parts' words bytes a n unit v [] h at small spots zero o e =
      let is : pair v nil ≡ o = cc in
      let z : unit + 0 ≡ unit = omega arith in
      subst (ObjectAt parts' bytes (n + 0)) is (record {
        at = record { unit = unit; more = 0 };
        there = spots 0 (omega arith) ∙ ap (λ u. Some (record { unit = u; more = 0 })) z;
        first = words v _ (subst (λ p. IsWord parts v (word_in bytes p)) at h.0);
        rest = ap (λ p. word_in bytes (p + 8)) (sym at) ∙ h.1;
      })
  pairs_filled parts' words bytes a n unit v [] h at small spots (suc i) o e = absurd
      (let bad : None ≡ Some o = e in cc)
  pairs_filled parts' words bytes a n unit v (w ∷ vs) h at small spots zero o e =
      let is : pair v (object (suc n)) ≡ o = cc in
      let z : unit + 0 ≡ unit = omega arith in
      let one : n + 1 ≡ suc n = omega arith in
      let linked_is : word_in bytes (16 * unit + 8) ≡ a + 17 = ap (λ p. word_in bytes (p + 8)) (sym at) ∙ h.1 in
      subst (ObjectAt parts' bytes (n + 0)) is (record {
        at = record { unit = unit; more = 0 };
        there = spots 0 (omega arith) ∙ ap (λ u. Some (record { unit = u; more = 0 })) z;
        first = words v _ (subst (λ p. IsWord parts v (word_in bytes p)) at h.0);
        rest = inl (record {
          at = record { unit = unit + 1; more = 0 };
          there = ap (λ k. spot parts' (a_pair k)) (sym one) ∙ spots 1 (omega arith);
          is = omega (arith, linked_is, at);
          fits = omega (arith, linked_is, small);
        });
      })
  pairs_filled parts' words bytes a n unit v (w ∷ vs) h at small spots (suc i) o e =
      let z : suc n + i ≡ n + suc i = omega arith in
      subst (λ k. ObjectAt parts' bytes k o) z
      (pairs_filled parts' words bytes (a + 16) (suc n) (suc unit) w vs h.2 (omega (arith, at)) (omega (arith, small))
      (λ k lt. let y : n + suc k ≡ suc n + k = omega arith in
      let u : unit + suc k ≡ suc unit + k = omega arith in
      ap (λ k. spot parts' (a_pair k)) (sym y) ∙ spots (suc k) (omega (arith, lt))
      ∙ ap (λ u. Some (record { unit = u; more = 0 })) u) i o e)

  all_filled : (parts' : Parts) → Words parts parts' → (bytes : List ℕ) (a n unit : ℕ) (vs : List Value)
      → ListAt plan act parts bytes a vs → a ≡ 16 * unit → a + 16 * length vs < 2 ^ 32
      → ((i : ℕ) → i < length vs → spot parts' (a_pair (n + i)) ≡ Some (record { unit = unit + i; more = 0 }))
      → (i : ℕ) (o : Object) → slice_get (linked n vs nil) i ≡ Some o → ObjectAt parts' bytes (n + i) o
  all_filled parts' words bytes a n unit [] h at small spots i o e = absurd (let bad : None ≡ Some o = e in cc)
  all_filled parts' words bytes a n unit (v ∷ vs) h at small spots i o e = pairs_filled parts' words bytes a n unit v vs
      h at small spots i o e

  -- ---- the store with the list

  module _ (s : State Procedure) (bytes output : List ℕ) (answers : List Answer) (vs : List Value)
      (g : StoreAt plan parts s bytes output answers) where
    abbrev pub with_list : Parts
    with_list = grown parts (pair_parts (length s.store.objects) vs)

    spots : (i : ℕ) → i < length vs → spot with_list (a_pair (length s.store.objects + i))
        ≡ Some (record { unit = end_of parts + i; more = 0 })
    spots = pair_spot parts (length s.store.objects) vs (none_yet parts s.store.objects g.contents.kinds)

    pub list_added : heap + (s.store.charged + 16 * length vs) ≤ stack
        → ListAt plan act parts bytes (heap + s.store.charged) vs
        → StoreAt plan with_list (record s {
          store = record s.store {
            objects = s.store.objects ++ linked (length s.store.objects) vs nil;
            charged = s.store.charged + 16 * length vs;
          };
        }) bytes output answers
    list_added room filled =
        let n = length s.store.objects in
        let others = pair_parts n vs in
        let e = g.ends in let end = end_grown parts others in let taken = pair_units n vs in let m = near in
        store_changed plan parts with_list s s.cells s.procedures (s.store.objects ++ linked n vs nil)
        (s.store.charged + 16 * length vs) bytes bytes output answers (words_stay parts others) g.begins g.known refl
        (λ a k lo hi. refl) room (omega (arith, e, end, taken))
        (objects_grow (code_of plan) parts others s.cells s.procedures s.store.objects
        (s.store.objects ++ linked n vs nil) bytes (objects_stay s.store.objects (linked n vs nil))
        (pair_kinds s.store.objects vs)
        (each_of s.store.objects (linked n vs nil)
        (λ k o. (slice_get s.store.objects k ≡ Some o) ⊎ ObjectAt with_list bytes k o) (λ k o i. inl i)
        (λ i o is. inr (all_filled with_list (words_stay parts others) bytes (heap + s.store.charged) n (end_of parts) vs
        filled (sym e) (omega (arith, room, m)) spots i o is))) g.contents)
        (pairs_taken parts n vs (length s.cells) (length s.procedures) g.new) g

    -- the word of the list
    pub list_named : heap + (s.store.charged + 16 * length vs) ≤ stack
        → IsWord with_list (list_value (length s.store.objects) vs nil) (list_word (heap + s.store.charged) vs)
    list_named room = by vs room spots
      where
        by : (us : List Value) → heap + (s.store.charged + 16 * length us) ≤ stack
            → ((i : ℕ) → i < length us → spot with_list (a_pair (length s.store.objects + i))
            ≡ Some (record { unit = end_of parts + i; more = 0 }))
            → IsWord with_list (list_value (length s.store.objects) us nil) (list_word (heap + s.store.charged) us)
        by [] room there = refl
        by (u ∷ us) room there =
            let e = g.ends in let m = near in
            let z : length s.store.objects + 0 ≡ length s.store.objects = omega arith in
            inl (record {
              at = record { unit = end_of parts + 0; more = 0 };
              there = ap (λ k. spot with_list (a_pair k)) (sym z) ∙ there 0 (omega arith);
              is = omega (arith, e);
              fits = omega (arith, room, m);
            })
