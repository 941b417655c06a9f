-- What a heap has stays where other words change, and grows with new parts.
use Rattle.std.proofs.Common.{◌≡◌, ℕ, suc, ◌+◌, ◌*◌, ◌^◌, ◌<◌, ◌≤◌, List, [], ◌∷◌, ◌++◌, length, Bool, true, false, Option, Some, None}
use Rattle.std.proofs.Common.{refl, sym, ap, ◌∙◌, subst, arith, ◌⊎◌, inl, inr, ⊎_elim, ◌==◌, ◌-◌}
use Rattle.std.specs.Prelude.{slice_get, slice_set}
use Rattle.std.proofs.lemmas.Bool.{eqb-true, eqb-false, cases_lt, ne_eqb}
use Rattle.std.proofs.lemmas.Option.{slice_get_within}
use Rattle.sch_word.specs.values.Values.{Value, fixnum, character, boolean, nil, unspecified, symbol, object, procedure, cell, Object, pair, vector, string}
use Rattle.sch_word.specs.values.PrimitiveRows.{is_pair, is_vector, is_string}
use Rattle.sch_word.proofs.facts.Lists.{set_here, set_elsewhere, get_front, get_behind, get_grown}
use Rattle.sch_word.specs.runs.Procedures.{Procedure}
use Rattle.sch_word.specs.runs.ProgramLayout.{data_address}
use Rattle.sch_asm.specs.Data.{Inside, word_in, with_word}
use Rattle.sch_asm.proofs.Words.{word_same}
use Rattle.sch_select_memory.specs.Parts.{Owner, a_procedure, a_cell, a_pair, a_vector, a_string, same_owner, Part, Parts, end_of, Spot, spot, grown}
use Rattle.sch_select_memory.specs.Encoded.{IsWord, IsHeld, Words}
use Rattle.sch_select_memory.specs.Heap.{CellAt, RecordAt, ObjectAt, AreKinds, HeapAt, AreNew, field_address, text_address, owner_of}
use Rattle.sch_select_memory.proofs.heap.Spots.{spot_within, spot_stays, spots_apart, spot_other, among, spot_split}
use Rattle.sch_select_memory.proofs.heap.Ranges.{BytesStay, word_stays, piece_beside}
use Rattle.sch_select_memory.proofs.heap.Encodings.{fits}

-- ---- words of values stay words

-- each part is where it was
abbrev pub Stay : Parts → Parts → Type 0
Stay before after = (o : Owner) (at : Spot) → spot before o ≡ Some at → spot after o ≡ Some at

pub words_by : (before after : Parts) → Stay before after → before.symbols ≤ after.symbols → Words before after
words_by before after stay more (fixnum n) x h = h
words_by before after stay more (character c) x h = h
words_by before after stay more (boolean b) x h = h
words_by before after stay more nil x h = h
words_by before after stay more unspecified x h = h
words_by before after stay more (symbol n) x h = (h.0, h.1, let lt = h.2 in omega (arith, lt, more))
words_by before after stay more (object n) x (inl h) = inl (record { at = h.at; there = stay (a_pair n) h.at h.there; is = h.is; fits = h.fits })
words_by before after stay more (object n) x (inr (inl h)) = inr (inl (record { at = h.at; there = stay (a_vector n) h.at h.there; is = h.is; fits = h.fits }))
words_by before after stay more (object n) x (inr (inr h)) = inr (inr (record { at = h.at; there = stay (a_string n) h.at h.there; is = h.is; fits = h.fits }))
words_by before after stay more (procedure n) x h = record { at = h.at; there = stay (a_procedure n) h.at h.there; is = h.is; fits = h.fits }
words_by before after stay more (cell n) x h = record { at = h.at; there = stay (a_cell n) h.at h.there; is = h.is; fits = h.fits }

pub words_stay : (parts : Parts) (others : List Part) → Words parts (grown parts others)
words_stay parts others = words_by parts (grown parts others) (spot_stays parts others) (omega arith)

pub held_words : (before after : Parts) → Words before after → (o : Option Value) (x : ℕ) → IsHeld before o x → IsHeld after o x
held_words before after w None x h = h
held_words before after w (Some v) x h = w v x h

pub held_fits : (parts : Parts) (o : Option Value) (x : ℕ) → IsHeld parts o x → x < 2 ^ 64
held_fits parts None x h = omega (arith, h)
held_fits parts (Some v) x h = fits parts v x h

-- ---- elements of lists

-- ---- the words of a heap

-- what a heap has is as it was
abbrev pub HeapStays : Parts → (before after : List ℕ) → Type 0
HeapStays parts before after = BytesStay (16 * parts.first) (16 * end_of parts) before after

-- a word of a part
part_word : (parts : Parts) (o : Owner) (at : Spot) (bytes bytes' : List ℕ) (a : ℕ) → HeapStays parts bytes bytes' → spot parts o ≡ Some at → 16 * at.unit ≤ a
    → a + 8 ≤ 16 * at.unit + 16 * suc at.more → word_in bytes' a ≡ word_in bytes a
part_word parts o at bytes bytes' a same there lo hi =
    let w = spot_within parts o at there in
    let low = w.0 in let high = w.1 in
    word_stays bytes bytes' a (same a 8 (omega (arith, low, lo)) (omega (arith, high, hi)))

pub cell_kept : (parts : Parts) (bytes bytes' : List ℕ) (n : ℕ) (contents : Option Value) → HeapStays parts bytes bytes' → CellAt parts bytes n contents → CellAt parts bytes' n contents
cell_kept parts bytes bytes' n contents same c = record {
  at = c.at;
  there = c.there;
  holds = subst (IsHeld parts contents) (sym (part_word parts (a_cell n) c.at bytes bytes' (16 * c.at.unit) same c.there (omega arith) (omega arith))) c.holds;
}

pub record_kept : (code_of : ℕ → ℕ) (parts : Parts) (bytes bytes' : List ℕ) (n : ℕ) (p : Procedure) → HeapStays parts bytes bytes' → RecordAt code_of parts bytes n p
    → RecordAt code_of parts bytes' n p
record_kept code_of parts bytes bytes' n p same r =
    let room = r.room in
    record {
      at = r.at;
      there = r.there;
      room = r.room;
      code = part_word parts (a_procedure n) r.at bytes bytes' (16 * r.at.unit) same r.there (omega arith) (omega (arith, room)) ∙ r.code;
      field = λ k v e. let lt = slice_get_within p.fields k v e in
          subst (IsWord parts v) (sym (part_word parts (a_procedure n) r.at bytes bytes' (field_address r.at.unit k) same r.there (omega arith) (omega (arith, room, lt)))) (r.field k v e);
    }

pub object_kept : (parts : Parts) (bytes bytes' : List ℕ) (n : ℕ) (o : Object) → HeapStays parts bytes bytes' → ObjectAt parts bytes n o → ObjectAt parts bytes' n o
object_kept parts bytes bytes' n (pair a d) same p = record {
  at = p.at;
  there = p.there;
  first = subst (IsWord parts a) (sym (part_word parts (a_pair n) p.at bytes bytes' (16 * p.at.unit) same p.there (omega arith) (omega arith))) p.first;
  rest = subst (IsWord parts d) (sym (part_word parts (a_pair n) p.at bytes bytes' (16 * p.at.unit + 8) same p.there (omega arith) (omega arith))) p.rest;
}
object_kept parts bytes bytes' n (vector elements) same p =
    let room = p.room in
    record {
      at = p.at;
      there = p.there;
      room = p.room;
      size = part_word parts (a_vector n) p.at bytes bytes' (16 * p.at.unit) same p.there (omega arith) (omega (arith, room)) ∙ p.size;
      element = λ k v e. let lt = slice_get_within elements k v e in
          subst (IsWord parts v) (sym (part_word parts (a_vector n) p.at bytes bytes' (field_address p.at.unit k) same p.there (omega arith) (omega (arith, room, lt)))) (p.element k v e);
    }
object_kept parts bytes bytes' n (string text) same p =
    let room = p.room in
    let w = spot_within parts (a_string n) p.at p.there in
    let low = w.0 in let high = w.1 in
    record {
      at = p.at;
      there = p.there;
      room = p.room;
      size = part_word parts (a_string n) p.at bytes bytes' (16 * p.at.unit) same p.there (omega arith) (omega (arith, room)) ∙ p.size;
      text_is = same (text_address p.at.unit) (length text) (omega (arith, low)) (omega (arith, high, room)) ∙ p.text_is;
      are_bytes = p.are_bytes;
    }

pub heap_kept : (code_of : ℕ → ℕ) (parts : Parts) (cells : List (Option Value)) (procedures : List Procedure) (objects : List Object) (bytes bytes' : List ℕ) → HeapStays parts bytes bytes'
    → HeapAt code_of parts cells procedures objects bytes → HeapAt code_of parts cells procedures objects bytes'
heap_kept code_of parts cells procedures objects bytes bytes' same h = record {
  cell = λ n contents e. cell_kept parts bytes bytes' n contents same (h.cell n contents e);
  procedure = λ n p e. record_kept code_of parts bytes bytes' n p same (h.procedure n p e);
  object = λ n o e. object_kept parts bytes bytes' n o same (h.object n o e);
  kinds = h.kinds;
}

-- ---- with more parts

object_grows : (parts : Parts) (others : List Part) (bytes : List ℕ) (n : ℕ) (o : Object) → ObjectAt parts bytes n o → ObjectAt (grown parts others) bytes n o
object_grows parts others bytes n (pair a d) p = record {
  at = p.at;
  there = spot_stays parts others (a_pair n) p.at p.there;
  first = words_stay parts others a _ p.first;
  rest = words_stay parts others d _ p.rest;
}
object_grows parts others bytes n (vector elements) p = record {
  at = p.at;
  there = spot_stays parts others (a_vector n) p.at p.there;
  room = p.room;
  size = p.size;
  element = λ k v e. words_stay parts others v _ (p.element k v e);
}
object_grows parts others bytes n (string text) p = record {
  at = p.at;
  there = spot_stays parts others (a_string n) p.at p.there;
  room = p.room;
  size = p.size;
  text_is = p.text_is;
  are_bytes = p.are_bytes;
}

-- what makes objects of their kinds of all parts that owners of objects have
pub record KindsOf (others : List Part) (objects : List Object) : Type 0 where
  pub pairs : (n : ℕ) → among others (a_pair n) ≡ true → is_pair (slice_get objects n) ≡ true
  pub vectors : (n : ℕ) → among others (a_vector n) ≡ true → is_vector (slice_get objects n) ≡ true
  pub strings : (n : ℕ) → among others (a_string n) ≡ true → is_string (slice_get objects n) ≡ true

-- the objects of a list are among those of another one
abbrev pub StayObjects : List Object → List Object → Type 0
StayObjects before after = (n : ℕ) (o : Object) → slice_get before n ≡ Some o → slice_get after n ≡ Some o

by_kind : (test : Option Object → Bool) (before after : List Object) (n : ℕ) → test None ≡ false → StayObjects before after → test (slice_get before n) ≡ true → test (slice_get after n) ≡ true
by_kind test before after n none stay h = by (slice_get before n) refl
  where
    by : (o : Option Object) → slice_get before n ≡ o → test (slice_get after n) ≡ true
    by None e = absurd (let bad : false ≡ true = sym none ∙ sym (ap test e) ∙ h in cc)
    by (Some o) e = ap test (stay n o e ∙ sym e) ∙ h

pub kinds_grow : (parts : Parts) (others : List Part) (before after : List Object) → StayObjects before after → KindsOf others after → AreKinds parts before → AreKinds (grown parts others) after
kinds_grow parts others before after stay more k = record {
  pairs = λ n at e. ⊎_elim (λ h. by_kind is_pair before after n refl stay (k.pairs n at h)) (more.pairs n) (spot_split parts others (a_pair n) at e);
  vectors = λ n at e. ⊎_elim (λ h. by_kind is_vector before after n refl stay (k.vectors n at h)) (more.vectors n) (spot_split parts others (a_vector n) at e);
  strings = λ n at e. ⊎_elim (λ h. by_kind is_string before after n refl stay (k.strings n at h)) (more.strings n) (spot_split parts others (a_string n) at e);
}

-- parts of cells and of procedures alone
pub record NoObjects (others : List Part) : Type 0 where
  pub pairs : (n : ℕ) → among others (a_pair n) ≡ false
  pub vectors : (n : ℕ) → among others (a_vector n) ≡ false
  pub strings : (n : ℕ) → among others (a_string n) ≡ false

pub no_kinds : (others : List Part) (objects : List Object) → NoObjects others → KindsOf others objects
no_kinds others objects none = record {
  pairs = λ n e. absurd (let bad : false ≡ true = sym (none.pairs n) ∙ e in cc);
  vectors = λ n e. absurd (let bad : false ≡ true = sym (none.vectors n) ∙ e in cc);
  strings = λ n e. absurd (let bad : false ≡ true = sym (none.strings n) ∙ e in cc);
}

-- the objects after are these, and each is where it was or has its part now
pub objects_grow : (code_of : ℕ → ℕ) (parts : Parts) (others : List Part) (cells : List (Option Value)) (procedures : List Procedure) (before after : List Object) (bytes : List ℕ)
    → StayObjects before after → KindsOf others after → ((n : ℕ) (o : Object) → slice_get after n ≡ Some o → (slice_get before n ≡ Some o) ⊎ ObjectAt (grown parts others) bytes n o)
    → HeapAt code_of parts cells procedures before bytes → HeapAt code_of (grown parts others) cells procedures after bytes
objects_grow code_of parts others cells procedures before after bytes stay more each h = record {
  cell = λ n contents e.
      let c = h.cell n contents e in
      record { at = c.at; there = spot_stays parts others (a_cell n) c.at c.there; holds = held_words parts (grown parts others) (words_stay parts others) contents _ c.holds };
  procedure = λ n p e.
      let r = h.procedure n p e in
      record {
        at = r.at;
        there = spot_stays parts others (a_procedure n) r.at r.there;
        room = r.room;
        code = r.code;
        field = λ k v f. words_stay parts others v _ (r.field k v f);
      };
  object = λ n o e. ⊎_elim (λ f. object_grows parts others bytes n o (h.object n o f)) (λ at. at) (each n o e);
  kinds = kinds_grow parts others before after stay more h.kinds;
}

pub heap_grows : (code_of : ℕ → ℕ) (parts : Parts) (others : List Part) (cells : List (Option Value)) (procedures : List Procedure) (objects : List Object) (bytes : List ℕ) → NoObjects others
    → HeapAt code_of parts cells procedures objects bytes → HeapAt code_of (grown parts others) cells procedures objects bytes
heap_grows code_of parts others cells procedures objects bytes none h =
    objects_grow code_of parts others cells procedures objects objects bytes (λ n o e. e) (no_kinds others objects none) (λ n o e. inl e) h

-- ---- more objects, whose parts are filled

pub objects_stay : (objects more : List Object) → StayObjects objects (objects ++ more)
objects_stay objects more n o e = get_grown objects more n o e

-- ---- more cells, and more procedures, whose parts are filled

module _ {A : Type 0} (xs ys : List A) (P : ℕ → A → Type 0) where
  pub each_of : ((n : ℕ) (x : A) → slice_get xs n ≡ Some x → P n x) → ((i : ℕ) (x : A) → slice_get ys i ≡ Some x → P (length xs + i) x) → (n : ℕ) (x : A) → slice_get (xs ++ ys) n ≡ Some x → P n x
  each_of f g n x e = ⊎_elim (λ lt. f n x (sym (get_front xs ys n lt) ∙ e)) (λ le. there le) (cases_lt n (length xs))
    where
      there : length xs ≤ n → P n x
      there le =
          let i = n - length xs in
          let at : length xs + i ≡ n = omega (arith, le) in
          subst (λ n. P n x) at (g i x (sym (get_behind xs ys i) ∙ ap (slice_get (xs ++ ys)) at ∙ e))

pub cells_added : (code_of : ℕ → ℕ) (parts : Parts) (cells more : List (Option Value)) (procedures : List Procedure) (objects : List Object) (bytes : List ℕ)
    → ((i : ℕ) (c : Option Value) → slice_get more i ≡ Some c → CellAt parts bytes (length cells + i) c) → HeapAt code_of parts cells procedures objects bytes
    → HeapAt code_of parts (cells ++ more) procedures objects bytes
cells_added code_of parts cells more procedures objects bytes filled h =
    record { cell = each_of cells more (CellAt parts bytes) h.cell filled; procedure = h.procedure; object = h.object; kinds = h.kinds }

pub procedures_added : (code_of : ℕ → ℕ) (parts : Parts) (cells : List (Option Value)) (procedures made : List Procedure) (objects : List Object) (bytes : List ℕ)
    → ((i : ℕ) (p : Procedure) → slice_get made i ≡ Some p → RecordAt code_of parts bytes (length procedures + i) p) → HeapAt code_of parts cells procedures objects bytes
    → HeapAt code_of parts cells (procedures ++ made) objects bytes
procedures_added code_of parts cells procedures made objects bytes filled h =
    record { cell = h.cell; procedure = each_of procedures made (RecordAt code_of parts bytes) h.procedure filled; object = h.object; kinds = h.kinds }

-- ---- one word of a part is written

-- a part of another owner
other_part : (parts : Parts) (o w : Owner) (s t : Spot) (bytes : List ℕ) (a v : ℕ) → spot parts o ≡ Some s → spot parts w ≡ Some t → same_owner o w ≡ false → data_address ≤ 16 * parts.first
    → Inside (length bytes) a → 16 * t.unit ≤ a → a + 8 ≤ 16 * t.unit + 16 * suc t.more
    → BytesStay (16 * s.unit) (16 * s.unit + 16 * suc s.more) bytes (with_word bytes a v)
other_part parts o w s t bytes a v e f other low within lo hi b n from to =
    let first = (spot_within parts o s e).0 in
    piece_beside bytes a v b n within (omega (arith, low, first, from))
    (⊎_elim (λ le. inl (omega (arith, le, lo, to))) (λ le. inr (omega (arith, le, hi, from))) (spots_apart parts o w s t e f other))

-- an object is no cell and no procedure
pub object_no_cell : (n k : ℕ) (o : Object) → same_owner (owner_of n o) (a_cell k) ≡ false
object_no_cell n k (pair a d) = refl
object_no_cell n k (vector vs) = refl
object_no_cell n k (string bs) = refl

pub object_no_procedure : (n k : ℕ) (o : Object) → same_owner (owner_of n o) (a_procedure k) ≡ false
object_no_procedure n k (pair a d) = refl
object_no_procedure n k (vector vs) = refl
object_no_procedure n k (string bs) = refl

-- what is not the owner's stays
pub record OthersStay (code_of : ℕ → ℕ) (parts : Parts) (w : Owner) (cells : List (Option Value)) (procedures : List Procedure) (objects : List Object) (before after : List ℕ) : Type 0 where
  pub cell : (n : ℕ) (contents : Option Value) → same_owner (a_cell n) w ≡ false → CellAt parts before n contents → CellAt parts after n contents
  pub procedure : (n : ℕ) (p : Procedure) → same_owner (a_procedure n) w ≡ false → RecordAt code_of parts before n p → RecordAt code_of parts after n p
  pub object : (n : ℕ) (o : Object) → same_owner (owner_of n o) w ≡ false → ObjectAt parts before n o → ObjectAt parts after n o

-- bytes of a part that stay, as words
kept_word : (s : Spot) (before after : List ℕ) (a : ℕ) → BytesStay (16 * s.unit) (16 * s.unit + 16 * suc s.more) before after → 16 * s.unit ≤ a → a + 8 ≤ 16 * s.unit + 16 * suc s.more
    → word_in after a ≡ word_in before a
kept_word s before after a same lo hi = word_stays before after a (same a 8 lo hi)

pub others_stay : (code_of : ℕ → ℕ) (parts : Parts) (w : Owner) (cells : List (Option Value)) (procedures : List Procedure) (objects : List Object) (before after : List ℕ)
    → ((o : Owner) (s : Spot) → spot parts o ≡ Some s → same_owner o w ≡ false → BytesStay (16 * s.unit) (16 * s.unit + 16 * suc s.more) before after)
    → OthersStay code_of parts w cells procedures objects before after
others_stay code_of parts w cells procedures objects before after stay = record {
  cell = λ n contents other c. record {
    at = c.at;
    there = c.there;
    holds = subst (IsHeld parts contents) (sym (kept_word c.at before after (16 * c.at.unit) (stay (a_cell n) c.at c.there other) (omega arith) (omega arith))) c.holds;
  };
  procedure = λ n p other r. let room = r.room in record {
    at = r.at;
    there = r.there;
    room = r.room;
    code = kept_word r.at before after (16 * r.at.unit) (stay (a_procedure n) r.at r.there other) (omega arith) (omega (arith, room)) ∙ r.code;
    field = λ k v e. let lt = slice_get_within p.fields k v e in
        subst (IsWord parts v) (sym (kept_word r.at before after (field_address r.at.unit k) (stay (a_procedure n) r.at r.there other) (omega arith) (omega (arith, room, lt)))) (r.field k v e);
  };
  object = object;
}
  where
    object : (n : ℕ) (o : Object) → same_owner (owner_of n o) w ≡ false → ObjectAt parts before n o → ObjectAt parts after n o
    object n (pair a d) other p = record {
      at = p.at;
      there = p.there;
      first = subst (IsWord parts a) (sym (kept_word p.at before after (16 * p.at.unit) (stay (a_pair n) p.at p.there other) (omega arith) (omega arith))) p.first;
      rest = subst (IsWord parts d) (sym (kept_word p.at before after (16 * p.at.unit + 8) (stay (a_pair n) p.at p.there other) (omega arith) (omega arith))) p.rest;
    }
    object n (vector elements) other p = let room = p.room in record {
      at = p.at;
      there = p.there;
      room = p.room;
      size = kept_word p.at before after (16 * p.at.unit) (stay (a_vector n) p.at p.there other) (omega arith) (omega (arith, room)) ∙ p.size;
      element = λ k v e. let lt = slice_get_within elements k v e in
          subst (IsWord parts v) (sym (kept_word p.at before after (field_address p.at.unit k) (stay (a_vector n) p.at p.there other) (omega arith) (omega (arith, room, lt)))) (p.element k v e);
    }
    object n (string text) other p = let room = p.room in record {
      at = p.at;
      there = p.there;
      room = p.room;
      size = kept_word p.at before after (16 * p.at.unit) (stay (a_string n) p.at p.there other) (omega arith) (omega (arith, room)) ∙ p.size;
      text_is = stay (a_string n) p.at p.there other (text_address p.at.unit) (length text) (omega arith) (omega (arith, room)) ∙ p.text_is;
      are_bytes = p.are_bytes;
    }

-- ---- a cell is set

pub cell_set : (code_of : ℕ → ℕ) (parts : Parts) (cells : List (Option Value)) (procedures : List Procedure) (objects : List Object) (bytes : List ℕ) (n : ℕ) (contents : Option Value) (at : Spot)
    (x : ℕ) → n < length cells → spot parts (a_cell n) ≡ Some at → IsHeld parts contents x → Inside (length bytes) (16 * at.unit) → data_address ≤ 16 * parts.first
    → HeapAt code_of parts cells procedures objects bytes → HeapAt code_of parts (slice_set cells n contents) procedures objects (with_word bytes (16 * at.unit) x)
cell_set code_of parts cells procedures objects bytes n contents at x lt there held within low h =
    record {
      cell = λ k c e. by k c e (k == n) refl;
      procedure = λ k p e. rest.procedure k p refl (h.procedure k p e);
      object = λ k o e. rest.object k o (object_no_cell k n o) (h.object k o e);
      kinds = h.kinds;
    }
  where
    after : List ℕ
    after = with_word bytes (16 * at.unit) x

    rest : OthersStay code_of parts (a_cell n) cells procedures objects bytes after
    rest = others_stay code_of parts (a_cell n) cells procedures objects bytes after
        (λ o s e other. other_part parts o (a_cell n) s at bytes (16 * at.unit) x e there other low within (omega arith) (omega arith))

    by : (k : ℕ) (c : Option Value) → slice_get (slice_set cells n contents) k ≡ Some c → (b : Bool) → (k == n) ≡ b → CellAt parts after k c
    by k c e true b =
        let same : k ≡ n = eqb-true k n b in
        let f : Some contents ≡ Some c = sym (set_here cells n contents lt) ∙ ap (slice_get (slice_set cells n contents)) (sym same) ∙ e in
        let is : contents ≡ c = cc in
        record {
          at = at;
          there = ap (λ k. spot parts (a_cell k)) same ∙ there;
          holds = subst (λ c. IsHeld parts c (word_in after (16 * at.unit))) is (subst (IsHeld parts contents) (sym (word_same bytes (16 * at.unit) x within (held_fits parts contents x held))) held);
        }
    by k c e false b = rest.cell k c b (h.cell k c (sym (set_elsewhere cells n k contents (eqb-false k n b)) ∙ e))

-- ---- who has no part

pub cell_taken : (parts : Parts) (cells procedures more : ℕ) → AreNew parts cells procedures → AreNew (grown parts (record { owner = a_cell cells; more = more } ∷ [])) (suc cells) procedures
cell_taken parts cells procedures more a = record {
  cell = λ n le. spot_other parts (a_cell n) (a_cell cells) more (a.cell n (omega (arith, le))) (ne_eqb cells n (λ e. omega (arith, e, le)));
  procedure = λ n le. spot_other parts (a_procedure n) (a_cell cells) more (a.procedure n le) refl;
}

pub procedure_taken : (parts : Parts) (cells procedures more : ℕ) → AreNew parts cells procedures
    → AreNew (grown parts (record { owner = a_procedure procedures; more = more } ∷ [])) cells (suc procedures)
procedure_taken parts cells procedures more a = record {
  cell = λ n le. spot_other parts (a_cell n) (a_procedure procedures) more (a.cell n le) refl;
  procedure = λ n le. spot_other parts (a_procedure n) (a_procedure procedures) more (a.procedure n (omega (arith, le))) (ne_eqb procedures n (λ e. omega (arith, e, le)));
}

-- a cell or a procedure that has a part is there
pub cell_there : (parts : Parts) (cells procedures n : ℕ) (at : Spot) → AreNew parts cells procedures → spot parts (a_cell n) ≡ Some at → n < cells
cell_there parts cells procedures n at a e = ⊎_elim (λ lt. lt) (λ le. absurd (let bad : None ≡ Some at = sym (a.cell n le) ∙ e in cc)) (cases_lt n cells)
