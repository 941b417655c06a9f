-- What a test of a word says of its value.
use Rattle.std.proofs.Common.{◌≡◌, ℕ, ◌+◌, ◌*◌, ◌^◌, ◌<◌, ◌%◌, ◌≤◌, Bool, true, false, List, Option, Some, None, refl, sym, ap, ◌∙◌, subst, arith, inl, inr, ◌⊎◌, ⊎_elim, ◌==◌, eq-eqb}
use Rattle.std.specs.Prelude.{slice_get, ℤ, pos, negsuc, ◌+ℤ◌, ◌*ℤ◌, ◌≤ℤ◌, ◌<ℤ◌, not, int_le, ◌&&◌}
use Rattle.std.proofs.lemmas.Bool.{ne_eqb, ltb-true, eqb-true, eqb-false}
use Rattle.std.proofs.lemmas.Int.{ints}
use Rattle.sch_word.specs.declared.constant.Const.{Const}
use Rattle.sch_word.specs.declared.constant.Const.TheVariants.{Fixnum, Character, Boolean, Nil, Unspecified, Symbol}
use Rattle.sch_word.specs.values.Fixnum.{IsFixnum}
use Rattle.sch_word.specs.values.Values.{Value, fixnum, character, boolean, nil, unspecified, symbol, object, procedure, cell}
use Rattle.sch_word.specs.values.Values.{constant_value, is_constant, is_true, same_value, Object, pair, vector, string}
use Rattle.sch_word.specs.values.PrimitiveRows.{is_integer, is_character, is_boolean, is_null, is_procedure, is_symbol, is_pair, is_vector, is_string}
use Rattle.sch_word.specs.values.Literals.{constant_known}
use Rattle.sch_word.proofs.values.Fixnums.{is_fixnum_says}
use Rattle.sch_insn.specs.Machine.{word}
use Rattle.sch_insn.proofs.Conditions.{compared_e}
use Rattle.sch_asm.specs.Data.{FixnumWord}
use Rattle.sch_select_memory.specs.Parts.{Owner, a_procedure, a_cell, a_pair, a_vector, a_string, same_owner, Parts, spot}
use Rattle.sch_select_memory.specs.Encoded.{IsWord, Names, constant_number}
use Rattle.sch_select_memory.specs.Heap.{AreKinds}
use Rattle.sch_select_memory.proofs.heap.Signs.{tag_zero}
use Rattle.sch_select_memory.proofs.heap.Comparisons.{tests_equal}
use Rattle.sch_select_memory.proofs.heap.Spots.{same_place, same_says}

-- an object is of one kind
pub pair_no_vector : (o : Option Object) → is_pair o ≡ true → is_vector o ≡ true → ⊥
pair_no_vector (Some (pair a d)) p v = absurd cc
pair_no_vector (Some (vector vs)) p v = absurd cc
pair_no_vector (Some (string bs)) p v = absurd cc
pair_no_vector None p v = absurd cc

pub pair_no_string : (o : Option Object) → is_pair o ≡ true → is_string o ≡ true → ⊥
pair_no_string (Some (pair a d)) p v = absurd cc
pair_no_string (Some (vector vs)) p v = absurd cc
pair_no_string (Some (string bs)) p v = absurd cc
pair_no_string None p v = absurd cc

pub vector_no_string : (o : Option Object) → is_vector o ≡ true → is_string o ≡ true → ⊥
vector_no_string (Some (pair a d)) p v = absurd cc
vector_no_string (Some (vector vs)) p v = absurd cc
vector_no_string (Some (string bs)) p v = absurd cc
vector_no_string None p v = absurd cc

abbrev pub is_cell : Value → Bool
is_cell (cell n) = true
is_cell _ = false

module _ (parts : Parts) where
  -- the low three bits of a word
  abbrev pub tag_of : (v : Value) (x : ℕ) → IsWord parts v x → ℕ
  tag_of (fixnum n) x h = 0
  tag_of (character c) x h = 6
  tag_of (boolean b) x h = 6
  tag_of nil x h = 6
  tag_of unspecified x h = 6
  tag_of (symbol n) x h = 5
  tag_of (object n) x (inl h) = 1
  tag_of (object n) x (inr (inl h)) = 2
  tag_of (object n) x (inr (inr h)) = 3
  tag_of (procedure n) x h = 4
  tag_of (cell n) x h = 7

  pub fits : (v : Value) (x : ℕ) → IsWord parts v x → x < 2 ^ 64
  fits (fixnum n) x h = h.fits
  fits (character c) x h = omega (arith, h.0, h.1)
  fits (boolean true) x h = omega (arith, h)
  fits (boolean false) x h = omega (arith, h)
  fits nil x h = omega (arith, h)
  fits unspecified x h = omega (arith, h)
  fits (symbol n) x h = omega (arith, h.0, h.1)
  fits (object n) x (inl h) = h.fits
  fits (object n) x (inr (inl h)) = h.fits
  fits (object n) x (inr (inr h)) = h.fits
  fits (procedure n) x h = h.fits
  fits (cell n) x h = h.fits

  pub tagged : (v : Value) (x : ℕ) (h : IsWord parts v x) → x % 8 ≡ tag_of v x h
  tagged (fixnum n) x h = tag_zero n x h
  tagged (character c) x h = omega (arith, h.0)
  tagged (boolean true) x h = omega (arith, h)
  tagged (boolean false) x h = omega (arith, h)
  tagged nil x h = omega (arith, h)
  tagged unspecified x h = omega (arith, h)
  tagged (symbol n) x h = omega (arith, h.0)
  tagged (object n) x (inl h) = let e = h.is in omega (arith, e)
  tagged (object n) x (inr (inl h)) = let e = h.is in omega (arith, e)
  tagged (object n) x (inr (inr h)) = let e = h.is in omega (arith, e)
  tagged (procedure n) x h = let e = h.is in omega (arith, e)
  tagged (cell n) x h = let e = h.is in omega (arith, e)

  -- ---- types, by low bits

  object_tag : (n x : ℕ) → IsWord parts (object n) x → (0 < x % 8) × (x % 8 < 4)
  object_tag n x (inl h) = let e = h.is in (omega (arith, e), omega (arith, e))
  object_tag n x (inr (inl h)) = let e = h.is in (omega (arith, e), omega (arith, e))
  object_tag n x (inr (inr h)) = let e = h.is in (omega (arith, e), omega (arith, e))

  pub tag_tested : (v : Value) (x k : ℕ) (h : IsWord parts v x) → (x % 8 == k) ≡ (tag_of v x h == k)
  tag_tested v x k h = ap (λ t. t == k) (tagged v x h)

  pub integer_tested : (v : Value) (x : ℕ) → IsWord parts v x → (x % 8 == 0) ≡ is_integer v
  integer_tested (fixnum n) x h = tag_tested (fixnum n) x 0 h
  integer_tested (character c) x h = tag_tested (character c) x 0 h
  integer_tested (boolean b) x h = tag_tested (boolean b) x 0 h
  integer_tested nil x h = tag_tested nil x 0 h
  integer_tested unspecified x h = tag_tested unspecified x 0 h
  integer_tested (symbol n) x h = tag_tested (symbol n) x 0 h
  integer_tested (object n) x h = let t = object_tag n x h in ne_eqb (x % 8) 0 (λ z. omega (arith, t.0, t.1, z))
  integer_tested (procedure n) x h = tag_tested (procedure n) x 0 h
  integer_tested (cell n) x h = tag_tested (cell n) x 0 h

  pub procedure_tested : (v : Value) (x : ℕ) → IsWord parts v x → (x % 8 == 4) ≡ is_procedure v
  procedure_tested (fixnum n) x h = tag_tested (fixnum n) x 4 h
  procedure_tested (character c) x h = tag_tested (character c) x 4 h
  procedure_tested (boolean b) x h = tag_tested (boolean b) x 4 h
  procedure_tested nil x h = tag_tested nil x 4 h
  procedure_tested unspecified x h = tag_tested unspecified x 4 h
  procedure_tested (symbol n) x h = tag_tested (symbol n) x 4 h
  procedure_tested (object n) x h = let t = object_tag n x h in ne_eqb (x % 8) 4 (λ z. omega (arith, t.0, t.1, z))
  procedure_tested (procedure n) x h = tag_tested (procedure n) x 4 h
  procedure_tested (cell n) x h = tag_tested (cell n) x 4 h

  pub character_tested : (v : Value) (x : ℕ) → IsWord parts v x → (x % 256 == 46) ≡ is_character v
  character_tested (fixnum n) x h = let t = tagged (fixnum n) x h in ne_eqb (x % 256) 46 (λ z. omega (arith, t, z))
  character_tested (character c) x h = eq-eqb (x % 256) 46 (omega (arith, h.0))
  character_tested (boolean true) x h = ne_eqb (x % 256) 46 (λ z. omega (arith, h, z))
  character_tested (boolean false) x h = ne_eqb (x % 256) 46 (λ z. omega (arith, h, z))
  character_tested nil x h = ne_eqb (x % 256) 46 (λ z. omega (arith, h, z))
  character_tested unspecified x h = ne_eqb (x % 256) 46 (λ z. omega (arith, h, z))
  character_tested (symbol n) x h = let t = tagged (symbol n) x h in ne_eqb (x % 256) 46 (λ z. omega (arith, t, z))
  character_tested (object n) x h = let t = object_tag n x h in ne_eqb (x % 256) 46 (λ z. omega (arith, t.0, t.1, z))
  character_tested (procedure n) x h = let t = tagged (procedure n) x h in ne_eqb (x % 256) 46 (λ z. omega (arith, t, z))
  character_tested (cell n) x h = let t = tagged (cell n) x h in ne_eqb (x % 256) 46 (λ z. omega (arith, t, z))

  pub boolean_tested : (v : Value) (x : ℕ) → IsWord parts v x → (x % 128 == 6) ≡ is_boolean v
  boolean_tested (fixnum n) x h = let t = tagged (fixnum n) x h in ne_eqb (x % 128) 6 (λ z. omega (arith, t, z))
  boolean_tested (character c) x h = ne_eqb (x % 128) 6 (λ z. omega (arith, h.0, z))
  boolean_tested (boolean true) x h = eq-eqb (x % 128) 6 (omega (arith, h))
  boolean_tested (boolean false) x h = eq-eqb (x % 128) 6 (omega (arith, h))
  boolean_tested nil x h = ne_eqb (x % 128) 6 (λ z. omega (arith, h, z))
  boolean_tested unspecified x h = ne_eqb (x % 128) 6 (λ z. omega (arith, h, z))
  boolean_tested (symbol n) x h = let t = tagged (symbol n) x h in ne_eqb (x % 128) 6 (λ z. omega (arith, t, z))
  boolean_tested (object n) x h = let t = object_tag n x h in ne_eqb (x % 128) 6 (λ z. omega (arith, t.0, t.1, z))
  boolean_tested (procedure n) x h = let t = tagged (procedure n) x h in ne_eqb (x % 128) 6 (λ z. omega (arith, t, z))
  boolean_tested (cell n) x h = let t = tagged (cell n) x h in ne_eqb (x % 128) 6 (λ z. omega (arith, t, z))

  pub null_tested : (v : Value) (x : ℕ) → IsWord parts v x → (x % 256 == 22) ≡ is_null v
  null_tested (fixnum n) x h = let t = tagged (fixnum n) x h in ne_eqb (x % 256) 22 (λ z. omega (arith, t, z))
  null_tested (character c) x h = ne_eqb (x % 256) 22 (λ z. omega (arith, h.0, z))
  null_tested (boolean true) x h = ne_eqb (x % 256) 22 (λ z. omega (arith, h, z))
  null_tested (boolean false) x h = ne_eqb (x % 256) 22 (λ z. omega (arith, h, z))
  null_tested nil x h = eq-eqb (x % 256) 22 (omega (arith, h))
  null_tested unspecified x h = ne_eqb (x % 256) 22 (λ z. omega (arith, h, z))
  null_tested (symbol n) x h = let t = tagged (symbol n) x h in ne_eqb (x % 256) 22 (λ z. omega (arith, t, z))
  null_tested (object n) x h = let t = object_tag n x h in ne_eqb (x % 256) 22 (λ z. omega (arith, t.0, t.1, z))
  null_tested (procedure n) x h = let t = tagged (procedure n) x h in ne_eqb (x % 256) 22 (λ z. omega (arith, t, z))
  null_tested (cell n) x h = let t = tagged (cell n) x h in ne_eqb (x % 256) 22 (λ z. omega (arith, t, z))

  pub symbol_tested : (v : Value) (x : ℕ) → IsWord parts v x → (x % 8 == 5) ≡ is_symbol v
  symbol_tested (fixnum n) x h = tag_tested (fixnum n) x 5 h
  symbol_tested (character c) x h = tag_tested (character c) x 5 h
  symbol_tested (boolean b) x h = tag_tested (boolean b) x 5 h
  symbol_tested nil x h = tag_tested nil x 5 h
  symbol_tested unspecified x h = tag_tested unspecified x 5 h
  symbol_tested (symbol n) x h = tag_tested (symbol n) x 5 h
  symbol_tested (object n) x h = let t = object_tag n x h in ne_eqb (x % 8) 5 (λ z. omega (arith, t.0, t.1, z))
  symbol_tested (procedure n) x h = tag_tested (procedure n) x 5 h
  symbol_tested (cell n) x h = tag_tested (cell n) x 5 h

  -- ---- cells, by the tag alone

  pub cell_tested : (v : Value) (x : ℕ) → IsWord parts v x → (x % 8 == 7) ≡ is_cell v
  cell_tested (fixnum n) x h = tag_tested (fixnum n) x 7 h
  cell_tested (character c) x h = tag_tested (character c) x 7 h
  cell_tested (boolean b) x h = tag_tested (boolean b) x 7 h
  cell_tested nil x h = tag_tested nil x 7 h
  cell_tested unspecified x h = tag_tested unspecified x 7 h
  cell_tested (symbol n) x h = tag_tested (symbol n) x 7 h
  cell_tested (object n) x h = let t = object_tag n x h in ne_eqb (x % 8) 7 (λ z. omega (arith, t.0, t.1, z))
  cell_tested (procedure n) x h = tag_tested (procedure n) x 7 h
  cell_tested (cell n) x h = tag_tested (cell n) x 7 h

  -- ---- `#f`, and no value

  pub false_tested : (v : Value) (x : ℕ) → IsWord parts v x → (x == 6) ≡ not (is_true v)
  false_tested (fixnum n) x h = let t = tagged (fixnum n) x h in ne_eqb x 6 (λ z. omega (arith, t, z))
  false_tested (character c) x h = ne_eqb x 6 (λ z. omega (arith, h.0, z))
  false_tested (boolean true) x h = ne_eqb x 6 (λ z. omega (arith, h, z))
  false_tested (boolean false) x h = eq-eqb x 6 h
  false_tested nil x h = ne_eqb x 6 (λ z. omega (arith, h, z))
  false_tested unspecified x h = ne_eqb x 6 (λ z. omega (arith, h, z))
  false_tested (symbol n) x h = let t = tagged (symbol n) x h in ne_eqb x 6 (λ z. omega (arith, t, z))
  false_tested (object n) x h = let t = object_tag n x h in ne_eqb x 6 (λ z. omega (arith, t.0, t.1, z))
  false_tested (procedure n) x h = let t = tagged (procedure n) x h in ne_eqb x 6 (λ z. omega (arith, t, z))
  false_tested (cell n) x h = let t = tagged (cell n) x h in ne_eqb x 6 (λ z. omega (arith, t, z))

  pub unset_tested : (v : Value) (x : ℕ) → IsWord parts v x → (x == 38) ≡ false
  unset_tested (fixnum n) x h = let t = tagged (fixnum n) x h in ne_eqb x 38 (λ z. omega (arith, t, z))
  unset_tested (character c) x h = ne_eqb x 38 (λ z. omega (arith, h.0, z))
  unset_tested (boolean true) x h = ne_eqb x 38 (λ z. omega (arith, h, z))
  unset_tested (boolean false) x h = ne_eqb x 38 (λ z. omega (arith, h, z))
  unset_tested nil x h = ne_eqb x 38 (λ z. omega (arith, h, z))
  unset_tested unspecified x h = ne_eqb x 38 (λ z. omega (arith, h, z))
  unset_tested (symbol n) x h = let t = tagged (symbol n) x h in ne_eqb x 38 (λ z. omega (arith, t, z))
  unset_tested (object n) x h = let t = object_tag n x h in ne_eqb x 38 (λ z. omega (arith, t.0, t.1, z))
  unset_tested (procedure n) x h = let t = tagged (procedure n) x h in ne_eqb x 38 (λ z. omega (arith, t, z))
  unset_tested (cell n) x h = let t = tagged (cell n) x h in ne_eqb x 38 (λ z. omega (arith, t, z))

  -- ---- two words are the same where their values are

  same_fixnums : (a b : ℤ) (x y : ℕ) → FixnumWord a x → FixnumWord b y → (x == y) ≡ (int_le a b && int_le b a)
  same_fixnums a b x y u v = let e : Some (x == y) ≡ Some (int_le a b && int_le b a) = sym (compared_e x y u.fits v.fits) ∙ tests_equal a b x y u v in cc

  same_characters : (b c x y : ℕ) → x ≡ 256 * b + 46 → y ≡ 256 * c + 46 → (t : Bool) → (b == c) ≡ t → (x == y) ≡ t
  same_characters b c x y e f true t = eq-eqb x y (let s : b ≡ c = eqb-true b c t in omega (arith, e, f, s))
  same_characters b c x y e f false t = ne_eqb x y (λ z. eqb-false b c t (omega (arith, e, f, z)))

  same_symbols : (b c x y : ℕ) → x ≡ 8 * b + 5 → y ≡ 8 * c + 5 → (t : Bool) → (b == c) ≡ t → (x == y) ≡ t
  same_symbols b c x y e f true t = eq-eqb x y (let s : b ≡ c = eqb-true b c t in omega (arith, e, f, s))
  same_symbols b c x y e f false t = ne_eqb x y (λ z. eqb-false b c t (omega (arith, e, f, z)))

  -- two names are the same where their owners are
  same_names : (a b : Owner) (tag x y : ℕ) → Names parts a tag x → Names parts b tag y → (t : Bool) → same_owner a b ≡ t → (x == y) ≡ t
  same_names a b tag x y h g true t =
      let f : spot parts a ≡ Some g.at = ap (spot parts) (same_says a b t) ∙ g.there in
      let e : Some h.at ≡ Some g.at = sym h.there ∙ f in
      let s : h.at ≡ g.at = cc in
      eq-eqb x y (h.is ∙ ap (λ s. 16 * s.unit + tag) s ∙ sym g.is)
  same_names a b tag x y h g false t =
      ne_eqb x y (λ z.
      let hi = h.is in let gi = g.is in
      let u : h.at.unit ≡ g.at.unit = omega (arith, hi, gi, z) in
      let bad : true ≡ false = sym (same_place parts a b h.at g.at h.there g.there u) ∙ t in absurd cc)

  -- words with other tags are different
  other_tags : (a b : Value) (x y : ℕ) (h : IsWord parts a x) (g : IsWord parts b y) → (tag_of a x h == tag_of b y g) ≡ false → (x == y) ≡ false
  other_tags a b x y h g e = ne_eqb x y (λ z. eqb-false (tag_of a x h) (tag_of b y g) e (sym (tagged a x h) ∙ ap (λ x. x % 8) z ∙ tagged b y g))

  object_other : (n : ℕ) (b : Value) (x y : ℕ) → IsWord parts (object n) x → (g : IsWord parts b y) → (tag_of b y g ≡ 0) ⊎ (4 ≤ tag_of b y g) → (x == y) ≡ false
  object_other n b x y h g apart = let t = object_tag n x h in let u = tagged b y g in
      ⊎_elim (λ e. ne_eqb x y (λ z. omega (arith, t.0, t.1, u, e, z))) (λ e. ne_eqb x y (λ z. omega (arith, t.0, t.1, u, e, z))) apart

  other_object : (a : Value) (n x y : ℕ) (h : IsWord parts a x) → IsWord parts (object n) y → (tag_of a x h ≡ 0) ⊎ (4 ≤ tag_of a x h) → (x == y) ≡ false
  other_object a n x y h g apart = let t = object_tag n y g in let u = tagged a x h in
      ⊎_elim (λ e. ne_eqb x y (λ z. omega (arith, t.0, t.1, u, e, z))) (λ e. ne_eqb x y (λ z. omega (arith, t.0, t.1, u, e, z))) apart

  -- an object is of one kind
  same_objects : (objects : List Object) → AreKinds parts objects → (m n x y : ℕ) → IsWord parts (object m) x → IsWord parts (object n) y → (x == y) ≡ (m == n)
  same_objects objects kinds m n x y (inl h) (inl g) = same_names (a_pair m) (a_pair n) 1 x y h g (m == n) refl
  same_objects objects kinds m n x y (inr (inl h)) (inr (inl g)) = same_names (a_vector m) (a_vector n) 2 x y h g (m == n) refl
  same_objects objects kinds m n x y (inr (inr h)) (inr (inr g)) = same_names (a_string m) (a_string n) 3 x y h g (m == n) refl
  same_objects objects kinds m n x y (inl h) (inr (inl g)) = let p = h.is in let q = g.is in
      ne_eqb x y (λ z. omega (arith, p, q, z))
      ∙ sym (ne_eqb m n (λ z. pair_no_vector (slice_get objects n) (subst (λ m. is_pair (slice_get objects m) ≡ true) z (kinds.pairs m h.at h.there)) (kinds.vectors n g.at g.there)))
  same_objects objects kinds m n x y (inl h) (inr (inr g)) = let p = h.is in let q = g.is in
      ne_eqb x y (λ z. omega (arith, p, q, z))
      ∙ sym (ne_eqb m n (λ z. pair_no_string (slice_get objects n) (subst (λ m. is_pair (slice_get objects m) ≡ true) z (kinds.pairs m h.at h.there)) (kinds.strings n g.at g.there)))
  same_objects objects kinds m n x y (inr (inl h)) (inl g) = let p = h.is in let q = g.is in
      ne_eqb x y (λ z. omega (arith, p, q, z))
      ∙ sym (ne_eqb m n (λ z. pair_no_vector (slice_get objects n) (kinds.pairs n g.at g.there) (subst (λ m. is_vector (slice_get objects m) ≡ true) z (kinds.vectors m h.at h.there))))
  same_objects objects kinds m n x y (inr (inl h)) (inr (inr g)) = let p = h.is in let q = g.is in
      ne_eqb x y (λ z. omega (arith, p, q, z))
      ∙ sym (ne_eqb m n (λ z. vector_no_string (slice_get objects n) (subst (λ m. is_vector (slice_get objects m) ≡ true) z (kinds.vectors m h.at h.there)) (kinds.strings n g.at g.there)))
  same_objects objects kinds m n x y (inr (inr h)) (inl g) = let p = h.is in let q = g.is in
      ne_eqb x y (λ z. omega (arith, p, q, z))
      ∙ sym (ne_eqb m n (λ z. pair_no_string (slice_get objects n) (kinds.pairs n g.at g.there) (subst (λ m. is_string (slice_get objects m) ≡ true) z (kinds.strings m h.at h.there))))
  same_objects objects kinds m n x y (inr (inr h)) (inr (inl g)) = let p = h.is in let q = g.is in
      ne_eqb x y (λ z. omega (arith, p, q, z))
      ∙ sym (ne_eqb m n (λ z. vector_no_string (slice_get objects n) (kinds.vectors n g.at g.there) (subst (λ m. is_string (slice_get objects m) ≡ true) z (kinds.strings m h.at h.there))))

  pub same_tested : (objects : List Object) → AreKinds parts objects → (a b : Value) (x y : ℕ) → IsWord parts a x → IsWord parts b y → (x == y) ≡ same_value a b
  same_tested objects kinds (fixnum m) (fixnum n) x y h g = same_fixnums m n x y h g
  same_tested objects kinds (fixnum m) (character n) x y h g = other_tags (fixnum m) (character n) x y h g refl
  same_tested objects kinds (fixnum m) (boolean true) x y h g = other_tags (fixnum m) (boolean true) x y h g refl
  same_tested objects kinds (fixnum m) (boolean false) x y h g = other_tags (fixnum m) (boolean false) x y h g refl
  same_tested objects kinds (fixnum m) nil x y h g = other_tags (fixnum m) nil x y h g refl
  same_tested objects kinds (fixnum m) unspecified x y h g = other_tags (fixnum m) unspecified x y h g refl
  same_tested objects kinds (fixnum m) (symbol n) x y h g = other_tags (fixnum m) (symbol n) x y h g refl
  same_tested objects kinds (fixnum m) (object n) x y h g = other_object (fixnum m) n x y h g (inl refl)
  same_tested objects kinds (fixnum m) (procedure n) x y h g = other_tags (fixnum m) (procedure n) x y h g refl
  same_tested objects kinds (fixnum m) (cell n) x y h g = other_tags (fixnum m) (cell n) x y h g refl
  same_tested objects kinds (character m) (fixnum n) x y h g = other_tags (character m) (fixnum n) x y h g refl
  same_tested objects kinds (character m) (character n) x y h g = same_characters m n x y h.0 g.0 (m == n) refl
  same_tested objects kinds (character m) (boolean true) x y h g = ne_eqb x y (λ z. omega (arith, h.0, g, z))
  same_tested objects kinds (character m) (boolean false) x y h g = ne_eqb x y (λ z. omega (arith, h.0, g, z))
  same_tested objects kinds (character m) nil x y h g = ne_eqb x y (λ z. omega (arith, h.0, g, z))
  same_tested objects kinds (character m) unspecified x y h g = ne_eqb x y (λ z. omega (arith, h.0, g, z))
  same_tested objects kinds (character m) (symbol n) x y h g = other_tags (character m) (symbol n) x y h g refl
  same_tested objects kinds (character m) (object n) x y h g = other_object (character m) n x y h g (inr (omega arith))
  same_tested objects kinds (character m) (procedure n) x y h g = other_tags (character m) (procedure n) x y h g refl
  same_tested objects kinds (character m) (cell n) x y h g = other_tags (character m) (cell n) x y h g refl
  same_tested objects kinds (boolean true) (fixnum n) x y h g = other_tags (boolean true) (fixnum n) x y h g refl
  same_tested objects kinds (boolean true) (character n) x y h g = ne_eqb x y (λ z. omega (arith, h, g.0, z))
  same_tested objects kinds (boolean true) (boolean true) x y h g = eq-eqb x y (h ∙ sym g)
  same_tested objects kinds (boolean true) (boolean false) x y h g = ne_eqb x y (λ z. omega (arith, h, g, z))
  same_tested objects kinds (boolean true) nil x y h g = ne_eqb x y (λ z. omega (arith, h, g, z))
  same_tested objects kinds (boolean true) unspecified x y h g = ne_eqb x y (λ z. omega (arith, h, g, z))
  same_tested objects kinds (boolean true) (symbol n) x y h g = other_tags (boolean true) (symbol n) x y h g refl
  same_tested objects kinds (boolean true) (object n) x y h g = other_object (boolean true) n x y h g (inr (omega arith))
  same_tested objects kinds (boolean true) (procedure n) x y h g = other_tags (boolean true) (procedure n) x y h g refl
  same_tested objects kinds (boolean true) (cell n) x y h g = other_tags (boolean true) (cell n) x y h g refl
  same_tested objects kinds (boolean false) (fixnum n) x y h g = other_tags (boolean false) (fixnum n) x y h g refl
  same_tested objects kinds (boolean false) (character n) x y h g = ne_eqb x y (λ z. omega (arith, h, g.0, z))
  same_tested objects kinds (boolean false) (boolean true) x y h g = ne_eqb x y (λ z. omega (arith, h, g, z))
  same_tested objects kinds (boolean false) (boolean false) x y h g = eq-eqb x y (h ∙ sym g)
  same_tested objects kinds (boolean false) nil x y h g = ne_eqb x y (λ z. omega (arith, h, g, z))
  same_tested objects kinds (boolean false) unspecified x y h g = ne_eqb x y (λ z. omega (arith, h, g, z))
  same_tested objects kinds (boolean false) (symbol n) x y h g = other_tags (boolean false) (symbol n) x y h g refl
  same_tested objects kinds (boolean false) (object n) x y h g = other_object (boolean false) n x y h g (inr (omega arith))
  same_tested objects kinds (boolean false) (procedure n) x y h g = other_tags (boolean false) (procedure n) x y h g refl
  same_tested objects kinds (boolean false) (cell n) x y h g = other_tags (boolean false) (cell n) x y h g refl
  same_tested objects kinds nil (fixnum n) x y h g = other_tags nil (fixnum n) x y h g refl
  same_tested objects kinds nil (character n) x y h g = ne_eqb x y (λ z. omega (arith, h, g.0, z))
  same_tested objects kinds nil (boolean true) x y h g = ne_eqb x y (λ z. omega (arith, h, g, z))
  same_tested objects kinds nil (boolean false) x y h g = ne_eqb x y (λ z. omega (arith, h, g, z))
  same_tested objects kinds nil nil x y h g = eq-eqb x y (h ∙ sym g)
  same_tested objects kinds nil unspecified x y h g = ne_eqb x y (λ z. omega (arith, h, g, z))
  same_tested objects kinds nil (symbol n) x y h g = other_tags nil (symbol n) x y h g refl
  same_tested objects kinds nil (object n) x y h g = other_object nil n x y h g (inr (omega arith))
  same_tested objects kinds nil (procedure n) x y h g = other_tags nil (procedure n) x y h g refl
  same_tested objects kinds nil (cell n) x y h g = other_tags nil (cell n) x y h g refl
  same_tested objects kinds unspecified (fixnum n) x y h g = other_tags unspecified (fixnum n) x y h g refl
  same_tested objects kinds unspecified (character n) x y h g = ne_eqb x y (λ z. omega (arith, h, g.0, z))
  same_tested objects kinds unspecified (boolean true) x y h g = ne_eqb x y (λ z. omega (arith, h, g, z))
  same_tested objects kinds unspecified (boolean false) x y h g = ne_eqb x y (λ z. omega (arith, h, g, z))
  same_tested objects kinds unspecified nil x y h g = ne_eqb x y (λ z. omega (arith, h, g, z))
  same_tested objects kinds unspecified unspecified x y h g = eq-eqb x y (h ∙ sym g)
  same_tested objects kinds unspecified (symbol n) x y h g = other_tags unspecified (symbol n) x y h g refl
  same_tested objects kinds unspecified (object n) x y h g = other_object unspecified n x y h g (inr (omega arith))
  same_tested objects kinds unspecified (procedure n) x y h g = other_tags unspecified (procedure n) x y h g refl
  same_tested objects kinds unspecified (cell n) x y h g = other_tags unspecified (cell n) x y h g refl
  same_tested objects kinds (symbol m) (fixnum n) x y h g = other_tags (symbol m) (fixnum n) x y h g refl
  same_tested objects kinds (symbol m) (character n) x y h g = other_tags (symbol m) (character n) x y h g refl
  same_tested objects kinds (symbol m) (boolean true) x y h g = other_tags (symbol m) (boolean true) x y h g refl
  same_tested objects kinds (symbol m) (boolean false) x y h g = other_tags (symbol m) (boolean false) x y h g refl
  same_tested objects kinds (symbol m) nil x y h g = other_tags (symbol m) nil x y h g refl
  same_tested objects kinds (symbol m) unspecified x y h g = other_tags (symbol m) unspecified x y h g refl
  same_tested objects kinds (symbol m) (symbol n) x y h g = same_symbols m n x y h.0 g.0 (m == n) refl
  same_tested objects kinds (symbol m) (object n) x y h g = other_object (symbol m) n x y h g (inr (omega arith))
  same_tested objects kinds (symbol m) (procedure n) x y h g = other_tags (symbol m) (procedure n) x y h g refl
  same_tested objects kinds (symbol m) (cell n) x y h g = other_tags (symbol m) (cell n) x y h g refl
  same_tested objects kinds (object m) (fixnum n) x y h g = object_other m (fixnum n) x y h g (inl refl)
  same_tested objects kinds (object m) (character n) x y h g = object_other m (character n) x y h g (inr (omega arith))
  same_tested objects kinds (object m) (boolean true) x y h g = object_other m (boolean true) x y h g (inr (omega arith))
  same_tested objects kinds (object m) (boolean false) x y h g = object_other m (boolean false) x y h g (inr (omega arith))
  same_tested objects kinds (object m) nil x y h g = object_other m nil x y h g (inr (omega arith))
  same_tested objects kinds (object m) unspecified x y h g = object_other m unspecified x y h g (inr (omega arith))
  same_tested objects kinds (object m) (symbol n) x y h g = object_other m (symbol n) x y h g (inr (omega arith))
  same_tested objects kinds (object m) (object n) x y h g = same_objects objects kinds m n x y h g
  same_tested objects kinds (object m) (procedure n) x y h g = object_other m (procedure n) x y h g (inr (omega arith))
  same_tested objects kinds (object m) (cell n) x y h g = object_other m (cell n) x y h g (inr (omega arith))
  same_tested objects kinds (procedure m) (fixnum n) x y h g = other_tags (procedure m) (fixnum n) x y h g refl
  same_tested objects kinds (procedure m) (character n) x y h g = other_tags (procedure m) (character n) x y h g refl
  same_tested objects kinds (procedure m) (boolean true) x y h g = other_tags (procedure m) (boolean true) x y h g refl
  same_tested objects kinds (procedure m) (boolean false) x y h g = other_tags (procedure m) (boolean false) x y h g refl
  same_tested objects kinds (procedure m) nil x y h g = other_tags (procedure m) nil x y h g refl
  same_tested objects kinds (procedure m) unspecified x y h g = other_tags (procedure m) unspecified x y h g refl
  same_tested objects kinds (procedure m) (symbol n) x y h g = other_tags (procedure m) (symbol n) x y h g refl
  same_tested objects kinds (procedure m) (object n) x y h g = other_object (procedure m) n x y h g (inr (omega arith))
  same_tested objects kinds (procedure m) (procedure n) x y h g = same_names (a_procedure m) (a_procedure n) 4 x y h g (m == n) refl
  same_tested objects kinds (procedure m) (cell n) x y h g = other_tags (procedure m) (cell n) x y h g refl
  same_tested objects kinds (cell m) (fixnum n) x y h g = other_tags (cell m) (fixnum n) x y h g refl
  same_tested objects kinds (cell m) (character n) x y h g = other_tags (cell m) (character n) x y h g refl
  same_tested objects kinds (cell m) (boolean true) x y h g = other_tags (cell m) (boolean true) x y h g refl
  same_tested objects kinds (cell m) (boolean false) x y h g = other_tags (cell m) (boolean false) x y h g refl
  same_tested objects kinds (cell m) nil x y h g = other_tags (cell m) nil x y h g refl
  same_tested objects kinds (cell m) unspecified x y h g = other_tags (cell m) unspecified x y h g refl
  same_tested objects kinds (cell m) (symbol n) x y h g = other_tags (cell m) (symbol n) x y h g refl
  same_tested objects kinds (cell m) (object n) x y h g = other_object (cell m) n x y h g (inr (omega arith))
  same_tested objects kinds (cell m) (procedure n) x y h g = other_tags (cell m) (procedure n) x y h g refl
  same_tested objects kinds (cell m) (cell n) x y h g = same_names (a_cell m) (a_cell n) 7 x y h g (m == n) refl

-- ---- constants

word_is : (z : ℤ) → negsuc 9223372036854775807 ≤ℤ z → (pos (word z) ≡ z) ⊎ (pos (word z) ≡ z +ℤ pos 18446744073709551616)
word_is (pos k) l = inl refl
word_is (negsuc k) l = inr (omega (arith, ints))

word_fits : (z : ℤ) → z <ℤ pos 9223372036854775808 → word z < 18446744073709551616
word_fits (pos k) l = omega (arith, ints)
word_fits (negsuc k) l = omega (arith, ints)

fixnum_word : (n : ℤ) → IsFixnum n → FixnumWord n (word (pos 8 *ℤ n))
fixnum_word n h =
    let l : negsuc 1152921504606846975 ≤ℤ n = h.low in
    let m : n ≤ℤ pos 1152921504606846975 = h.high in
    record { range = h; fits = word_fits (pos 8 *ℤ n) (omega (arith, ints)); shifted = word_is (pos 8 *ℤ n) (omega (arith, ints)) }

pub constant_word : (parts : Parts) (symbols : ℕ) (c : Const) → is_constant c ≡ true → constant_known symbols c ≡ true → symbols ≤ 4294967296 → symbols ≤ parts.symbols
    → IsWord parts (constant_value c) (word (constant_number c))
constant_word parts symbols (Fixnum n) e k few there = fixnum_word n (is_fixnum_says n e)
constant_word parts symbols (Character c) e k few there = (refl, let lt = ltb-true c 256 e in lt)
constant_word parts symbols (Boolean b) e k few there = refl
constant_word parts symbols Nil e k few there = refl
constant_word parts symbols Unspecified e k few there = refl
constant_word parts symbols (Symbol n) e k few there = (refl, let lt = ltb-true n symbols k in omega (arith, lt, few), let lt = ltb-true n symbols k in omega (arith, lt, there))
