-- The kind of an object by the tag of its word, the object itself, and objects that are written.
use Rattle.std.proofs.Common.{◌≡◌, ℕ, suc, ◌+◌, ◌*◌, ◌<◌, ◌%◌, List, length, Bool, true, false, Option, Some, None, refl, sym, ap, ◌∙◌, subst, inl, inr, ◌==◌}
use Rattle.std.specs.Prelude.{slice_get, slice_set}
use Rattle.std.proofs.lemmas.Bool.{eqb-true, eqb-false}
use Rattle.sch_word.specs.declared.stop.Stop.TheVariants.{WrongType}
use Rattle.sch_word.specs.values.Values.{Value, fixnum, character, boolean, nil, unspecified, symbol, object, procedure, cell, Object, pair, vector, string}
use Rattle.sch_word.specs.values.PrimitiveRows.{is_pair, is_vector, is_string, object_at, pair_or_stop, vector_or_stop, string_or_stop}
use Rattle.sch_word.specs.runs.Store.{Store}
use Rattle.sch_word.specs.runs.Computation.{Action, stops}
use Rattle.sch_word.specs.runs.Procedures.{Procedure}
use Rattle.sch_select_memory.specs.Parts.{Owner, a_procedure, a_cell, a_pair, a_vector, a_string, same_owner, Parts, Spot, spot}
use Rattle.sch_select_memory.specs.Encoded.{IsWord, Names}
use Rattle.sch_select_memory.specs.Heap.{ObjectAt, AreKinds, HeapAt, owner_of}
use Rattle.sch_select_memory.proofs.heap.Encodings.{tag_tested, pair_no_vector, pair_no_string, vector_no_string}
use Rattle.sch_select_memory.proofs.heap.Ranges.{BytesStay}
use Rattle.sch_select_memory.proofs.heap.Contents.{OthersStay, others_stay}
use Rattle.sch_word.proofs.facts.Lists.{set_here, set_elsewhere}

-- ---- an object that is of one kind is of no other

is_no : (test : Option Object → Bool) (o : Option Object) → (test o ≡ true → ⊥) → test o ≡ false
is_no test o never = by (test o) refl
  where
    by : (b : Bool) → test o ≡ b → test o ≡ false
    by false e = e
    by true e = absurd (never e)

module _ (parts : Parts) (t : Store) (kinds : AreKinds parts t.objects) where
  pub pair_tested : (v : Value) (x : ℕ) → IsWord parts v x → (x % 8 == 1) ≡ is_pair (object_at v t)
  pair_tested (object n) x (inl h) = tag_tested parts (object n) x 1 (inl h) ∙ sym (kinds.pairs n h.at h.there)
  pair_tested (object n) x (inr (inl h)) = tag_tested parts (object n) x 1 (inr (inl h))
      ∙ sym (is_no is_pair (slice_get t.objects n) (λ e. pair_no_vector (slice_get t.objects n) e (kinds.vectors n h.at h.there)))
  pair_tested (object n) x (inr (inr h)) = tag_tested parts (object n) x 1 (inr (inr h))
      ∙ sym (is_no is_pair (slice_get t.objects n) (λ e. pair_no_string (slice_get t.objects n) e (kinds.strings n h.at h.there)))
  pair_tested (fixnum n) x h = tag_tested parts (fixnum n) x 1 h
  pair_tested (character c) x h = tag_tested parts (character c) x 1 h
  pair_tested (boolean b) x h = tag_tested parts (boolean b) x 1 h
  pair_tested nil x h = tag_tested parts nil x 1 h
  pair_tested unspecified x h = tag_tested parts unspecified x 1 h
  pair_tested (symbol n) x h = tag_tested parts (symbol n) x 1 h
  pair_tested (procedure n) x h = tag_tested parts (procedure n) x 1 h
  pair_tested (cell n) x h = tag_tested parts (cell n) x 1 h

  pub vector_tested : (v : Value) (x : ℕ) → IsWord parts v x → (x % 8 == 2) ≡ is_vector (object_at v t)
  vector_tested (object n) x (inl h) = tag_tested parts (object n) x 2 (inl h)
      ∙ sym (is_no is_vector (slice_get t.objects n) (λ e. pair_no_vector (slice_get t.objects n) (kinds.pairs n h.at h.there) e))
  vector_tested (object n) x (inr (inl h)) = tag_tested parts (object n) x 2 (inr (inl h)) ∙ sym (kinds.vectors n h.at h.there)
  vector_tested (object n) x (inr (inr h)) = tag_tested parts (object n) x 2 (inr (inr h))
      ∙ sym (is_no is_vector (slice_get t.objects n) (λ e. vector_no_string (slice_get t.objects n) e (kinds.strings n h.at h.there)))
  vector_tested (fixnum n) x h = tag_tested parts (fixnum n) x 2 h
  vector_tested (character c) x h = tag_tested parts (character c) x 2 h
  vector_tested (boolean b) x h = tag_tested parts (boolean b) x 2 h
  vector_tested nil x h = tag_tested parts nil x 2 h
  vector_tested unspecified x h = tag_tested parts unspecified x 2 h
  vector_tested (symbol n) x h = tag_tested parts (symbol n) x 2 h
  vector_tested (procedure n) x h = tag_tested parts (procedure n) x 2 h
  vector_tested (cell n) x h = tag_tested parts (cell n) x 2 h

  pub string_tested : (v : Value) (x : ℕ) → IsWord parts v x → (x % 8 == 3) ≡ is_string (object_at v t)
  string_tested (object n) x (inl h) = tag_tested parts (object n) x 3 (inl h)
      ∙ sym (is_no is_string (slice_get t.objects n) (λ e. pair_no_string (slice_get t.objects n) (kinds.pairs n h.at h.there) e))
  string_tested (object n) x (inr (inl h)) = tag_tested parts (object n) x 3 (inr (inl h))
      ∙ sym (is_no is_string (slice_get t.objects n) (λ e. vector_no_string (slice_get t.objects n) (kinds.vectors n h.at h.there) e))
  string_tested (object n) x (inr (inr h)) = tag_tested parts (object n) x 3 (inr (inr h)) ∙ sym (kinds.strings n h.at h.there)
  string_tested (fixnum n) x h = tag_tested parts (fixnum n) x 3 h
  string_tested (character c) x h = tag_tested parts (character c) x 3 h
  string_tested (boolean b) x h = tag_tested parts (boolean b) x 3 h
  string_tested nil x h = tag_tested parts nil x 3 h
  string_tested unspecified x h = tag_tested parts unspecified x 3 h
  string_tested (symbol n) x h = tag_tested parts (symbol n) x 3 h
  string_tested (procedure n) x h = tag_tested parts (procedure n) x 3 h
  string_tested (cell n) x h = tag_tested parts (cell n) x 3 h

-- ---- a value of a kind, with its object

-- the object of a number
pub record IsPairOf (t : Store) (v : Value) : Type 0 where
  pub number : ℕ
  pub value : v ≡ object number
  pub first : Value
  pub rest : Value
  pub there : slice_get t.objects number ≡ Some (pair first rest)

pub record IsVectorOf (t : Store) (v : Value) : Type 0 where
  pub number : ℕ
  pub value : v ≡ object number
  pub elements : List Value
  pub there : slice_get t.objects number ≡ Some (vector elements)

pub record IsStringOf (t : Store) (v : Value) : Type 0 where
  pub number : ℕ
  pub value : v ≡ object number
  pub text : List ℕ
  pub there : slice_get t.objects number ≡ Some (string text)

pub pair_of : (t : Store) (v : Value) → is_pair (object_at v t) ≡ true → IsPairOf t v
pair_of t (object n) e = by (slice_get t.objects n) refl
  where
    by : (o : Option Object) → slice_get t.objects n ≡ o → IsPairOf t (object n)
    by (Some (pair a d)) g = record { number = n; value = refl; first = a; rest = d; there = g }
    by (Some (vector vs)) g = absurd (let bad : false ≡ true = sym (ap is_pair g) ∙ e in cc)
    by (Some (string bs)) g = absurd (let bad : false ≡ true = sym (ap is_pair g) ∙ e in cc)
    by None g = absurd (let bad : false ≡ true = sym (ap is_pair g) ∙ e in cc)
pair_of t (fixnum n) e = absurd cc
pair_of t (character c) e = absurd cc
pair_of t (boolean b) e = absurd cc
pair_of t nil e = absurd cc
pair_of t unspecified e = absurd cc
pair_of t (symbol n) e = absurd cc
pair_of t (procedure n) e = absurd cc
pair_of t (cell n) e = absurd cc

pub vector_of : (t : Store) (v : Value) → is_vector (object_at v t) ≡ true → IsVectorOf t v
vector_of t (object n) e = by (slice_get t.objects n) refl
  where
    by : (o : Option Object) → slice_get t.objects n ≡ o → IsVectorOf t (object n)
    by (Some (vector vs)) g = record { number = n; value = refl; elements = vs; there = g }
    by (Some (pair a d)) g = absurd (let bad : false ≡ true = sym (ap is_vector g) ∙ e in cc)
    by (Some (string bs)) g = absurd (let bad : false ≡ true = sym (ap is_vector g) ∙ e in cc)
    by None g = absurd (let bad : false ≡ true = sym (ap is_vector g) ∙ e in cc)
vector_of t (fixnum n) e = absurd cc
vector_of t (character c) e = absurd cc
vector_of t (boolean b) e = absurd cc
vector_of t nil e = absurd cc
vector_of t unspecified e = absurd cc
vector_of t (symbol n) e = absurd cc
vector_of t (procedure n) e = absurd cc
vector_of t (cell n) e = absurd cc

pub string_of : (t : Store) (v : Value) → is_string (object_at v t) ≡ true → IsStringOf t v
string_of t (object n) e = by (slice_get t.objects n) refl
  where
    by : (o : Option Object) → slice_get t.objects n ≡ o → IsStringOf t (object n)
    by (Some (string bs)) g = record { number = n; value = refl; text = bs; there = g }
    by (Some (pair a d)) g = absurd (let bad : false ≡ true = sym (ap is_string g) ∙ e in cc)
    by (Some (vector vs)) g = absurd (let bad : false ≡ true = sym (ap is_string g) ∙ e in cc)
    by None g = absurd (let bad : false ≡ true = sym (ap is_string g) ∙ e in cc)
string_of t (fixnum n) e = absurd cc
string_of t (character c) e = absurd cc
string_of t (boolean b) e = absurd cc
string_of t nil e = absurd cc
string_of t unspecified e = absurd cc
string_of t (symbol n) e = absurd cc
string_of t (procedure n) e = absurd cc
string_of t (cell n) e = absurd cc

-- what is of no kind is stop 65
pub no_pair : (o : Option Object) (next : Value → Value → Action Value) (t : Store) → is_pair o ≡ false → pair_or_stop o next t ≡ stops WrongType t
no_pair (Some (pair a d)) next t e = absurd cc
no_pair (Some (vector vs)) next t e = refl
no_pair (Some (string bs)) next t e = refl
no_pair None next t e = refl

pub no_vector : (o : Option Object) (next : List Value → Action Value) (t : Store) → is_vector o ≡ false → vector_or_stop o next t ≡ stops WrongType t
no_vector (Some (vector vs)) next t e = absurd cc
no_vector (Some (pair a d)) next t e = refl
no_vector (Some (string bs)) next t e = refl
no_vector None next t e = refl

pub no_string : (o : Option Object) (next : List ℕ → Action Value) (t : Store) → is_string o ≡ false → string_or_stop o next t ≡ stops WrongType t
no_string (Some (string bs)) next t e = absurd cc
no_string (Some (pair a d)) next t e = refl
no_string (Some (vector vs)) next t e = refl
no_string None next t e = refl

-- ---- where the word of an object points

module _ (parts : Parts) (t : Store) (kinds : AreKinds parts t.objects) where
  pub pair_named : (n x : ℕ) (a d : Value) → IsWord parts (object n) x → slice_get t.objects n ≡ Some (pair a d) → Names parts (a_pair n) 1 x
  pair_named n x a d (inl h) e = h
  pair_named n x a d (inr (inl h)) e = absurd (let bad : false ≡ true = sym (ap is_vector e) ∙ kinds.vectors n h.at h.there in cc)
  pair_named n x a d (inr (inr h)) e = absurd (let bad : false ≡ true = sym (ap is_string e) ∙ kinds.strings n h.at h.there in cc)

  pub vector_named : (n x : ℕ) (vs : List Value) → IsWord parts (object n) x → slice_get t.objects n ≡ Some (vector vs) → Names parts (a_vector n) 2 x
  vector_named n x vs (inl h) e = absurd (let bad : false ≡ true = sym (ap is_pair e) ∙ kinds.pairs n h.at h.there in cc)
  vector_named n x vs (inr (inl h)) e = h
  vector_named n x vs (inr (inr h)) e = absurd (let bad : false ≡ true = sym (ap is_string e) ∙ kinds.strings n h.at h.there in cc)

  pub string_named : (n x : ℕ) (bs : List ℕ) → IsWord parts (object n) x → slice_get t.objects n ≡ Some (string bs) → Names parts (a_string n) 3 x
  string_named n x bs (inl h) e = absurd (let bad : false ≡ true = sym (ap is_pair e) ∙ kinds.pairs n h.at h.there in cc)
  string_named n x bs (inr (inl h)) e = absurd (let bad : false ≡ true = sym (ap is_vector e) ∙ kinds.vectors n h.at h.there in cc)
  string_named n x bs (inr (inr h)) e = h

-- two spots of one owner are one
pub one_spot : (parts : Parts) (o : Owner) (s t : Spot) → spot parts o ≡ Some s → spot parts o ≡ Some t → s ≡ t
one_spot parts o s t e f = let same : Some s ≡ Some t = sym e ∙ f in cc

-- ---- an object is written: it is of the same kind, and its bytes alone change

abbrev pub same_kind : Object → Object → Bool
same_kind (pair a d) (pair b e) = true
same_kind (vector vs) (vector ws) = true
same_kind (string bs) (string cs) = true
same_kind _ _ = false

kind_kept : (test : Option Object → Bool) (objects : List Object) (n k : ℕ) (o p : Object) → slice_get objects n ≡ Some o → n < length objects → (test (Some o) ≡ test (Some p))
    → test (slice_get objects k) ≡ true → test (slice_get (slice_set objects n p) k) ≡ true
kind_kept test objects n k o p e lt same h = by (k == n) refl
  where
    by : (b : Bool) → (k == n) ≡ b → test (slice_get (slice_set objects n p) k) ≡ true
    by true i = let z : k ≡ n = eqb-true k n i in ap (λ k. test (slice_get (slice_set objects n p) k)) z ∙ ap test (set_here objects n p lt) ∙ sym same ∙ ap test (sym e)
        ∙ ap (λ k. test (slice_get objects k)) (sym z) ∙ h
    by false i = ap test (set_elsewhere objects n k p (eqb-false k n i)) ∙ h

same_pairs : (o p : Object) → same_kind o p ≡ true → is_pair (Some o) ≡ is_pair (Some p)
same_pairs (pair a d) (pair b e) s = refl
same_pairs (vector vs) (vector ws) s = refl
same_pairs (string bs) (string cs) s = refl
same_pairs (pair a d) (vector ws) s = absurd cc
same_pairs (pair a d) (string cs) s = absurd cc
same_pairs (vector vs) (pair b e) s = absurd cc
same_pairs (vector vs) (string cs) s = absurd cc
same_pairs (string bs) (pair b e) s = absurd cc
same_pairs (string bs) (vector ws) s = absurd cc

same_vectors : (o p : Object) → same_kind o p ≡ true → is_vector (Some o) ≡ is_vector (Some p)
same_vectors (pair a d) (pair b e) s = refl
same_vectors (vector vs) (vector ws) s = refl
same_vectors (string bs) (string cs) s = refl
same_vectors (pair a d) (vector ws) s = absurd cc
same_vectors (pair a d) (string cs) s = absurd cc
same_vectors (vector vs) (pair b e) s = absurd cc
same_vectors (vector vs) (string cs) s = absurd cc
same_vectors (string bs) (pair b e) s = absurd cc
same_vectors (string bs) (vector ws) s = absurd cc

same_strings : (o p : Object) → same_kind o p ≡ true → is_string (Some o) ≡ is_string (Some p)
same_strings (pair a d) (pair b e) s = refl
same_strings (vector vs) (vector ws) s = refl
same_strings (string bs) (string cs) s = refl
same_strings (pair a d) (vector ws) s = absurd cc
same_strings (pair a d) (string cs) s = absurd cc
same_strings (vector vs) (pair b e) s = absurd cc
same_strings (vector vs) (string cs) s = absurd cc
same_strings (string bs) (pair b e) s = absurd cc
same_strings (string bs) (vector ws) s = absurd cc

-- an object of another number has another owner
other_owner : (k n : ℕ) (o p : Object) → (k == n) ≡ false → same_owner (owner_of k o) (owner_of n p) ≡ false
other_owner k n (pair a d) (pair b e) i = i
other_owner k n (vector vs) (vector ws) i = i
other_owner k n (string bs) (string cs) i = i
other_owner k n (pair a d) (vector ws) i = refl
other_owner k n (pair a d) (string cs) i = refl
other_owner k n (vector vs) (pair b e) i = refl
other_owner k n (vector vs) (string cs) i = refl
other_owner k n (string bs) (pair b e) i = refl
other_owner k n (string bs) (vector ws) i = refl

no_cell_owner : (k n : ℕ) (p : Object) → same_owner (a_cell k) (owner_of n p) ≡ false
no_cell_owner k n (pair a d) = refl
no_cell_owner k n (vector vs) = refl
no_cell_owner k n (string bs) = refl

no_procedure_owner : (k n : ℕ) (p : Object) → same_owner (a_procedure k) (owner_of n p) ≡ false
no_procedure_owner k n (pair a d) = refl
no_procedure_owner k n (vector vs) = refl
no_procedure_owner k n (string bs) = refl

pub object_set : (code_of : ℕ → ℕ) (parts : Parts) (cells : List (Option Value)) (procedures : List Procedure) (objects : List Object) (before after : List ℕ) (n : ℕ) (o p : Object)
    → n < length objects → slice_get objects n ≡ Some o → same_kind o p ≡ true
    → ((w : Owner) (s : Spot) → spot parts w ≡ Some s → same_owner w (owner_of n p) ≡ false → BytesStay (16 * s.unit) (16 * s.unit + 16 * suc s.more) before after)
    → ObjectAt parts after n p → HeapAt code_of parts cells procedures objects before → HeapAt code_of parts cells procedures (slice_set objects n p) after
object_set code_of parts cells procedures objects before after n o p lt there kind stay at h = record {
  cell = λ k c e. rest.cell k c (no_cell_owner k n p) (h.cell k c e);
  procedure = λ k q e. rest.procedure k q (no_procedure_owner k n p) (h.procedure k q e);
  object = λ k q e. by k q e (k == n) refl;
  kinds = record {
    pairs = λ k s e. kind_kept is_pair objects n k o p there lt (same_pairs o p kind) (h.kinds.pairs k s e);
    vectors = λ k s e. kind_kept is_vector objects n k o p there lt (same_vectors o p kind) (h.kinds.vectors k s e);
    strings = λ k s e. kind_kept is_string objects n k o p there lt (same_strings o p kind) (h.kinds.strings k s e);
  };
}
  where
    rest : OthersStay code_of parts (owner_of n p) cells procedures objects before after
    rest = others_stay code_of parts (owner_of n p) cells procedures objects before after stay

    by : (k : ℕ) (q : Object) → slice_get (slice_set objects n p) k ≡ Some q → (b : Bool) → (k == n) ≡ b → ObjectAt parts after k q
    by k q e true i =
        let z : k ≡ n = eqb-true k n i in
        let f : Some p ≡ Some q = sym (set_here objects n p lt) ∙ ap (slice_get (slice_set objects n p)) (sym z) ∙ e in
        let is : p ≡ q = cc in
        subst (λ q. ObjectAt parts after k q) is (subst (λ k. ObjectAt parts after k p) (sym z) at)
    by k q e false i = rest.object k q (other_owner k n q p i) (h.object k q (sym (set_elsewhere objects n k p (eqb-false k n i)) ∙ e))
