-- The objects of a program's literals are in its data, where the words of these objects stand.
use Rattle.std.proofs.Common.{◌≡◌, ℕ, zero, suc, ◌+◌, ◌-◌, ◌*◌, ◌/◌, ◌^◌, ◌<◌, ◌≤◌, true, List, [], ◌∷◌, ◌++◌, length, take, drop, map, Option, Some, None, refl, sym, ap, ◌∙◌, subst, arith, inl, inr, append_assoc, length-append}
use Rattle.std.specs.Prelude.{slice_get}
use Rattle.std.specs.Option.{option_map}
use Rattle.std.specs.Int.{w64, to_le_bytes}
use Rattle.std.specs.List.{flat_map}
use Rattle.std.proofs.lemmas.Grind.{flat_map-append}
use Rattle.std.proofs.lemmas.List.{drop_at, length-map}
use Rattle.std.proofs.lemmas.Option.{same_Some, slice_get-map}
use Rattle.sch_word.specs.declared.constant.Const.TheVariants.{Fixnum}
use Rattle.sch_word.specs.values.Values.{Value, fixnum, character, boolean, nil, unspecified, symbol, object, procedure, cell, are_bytes, Object, pair, vector, string}
use Rattle.sch_word.specs.values.Literals.{Literals, literals_size, objects_in_each, literal_values, objects_of_each, literals_known, literals_in_range}
use Rattle.sch_word.proofs.values.Fixnums.{is_fixnum_holds}
use Rattle.sch_word.proofs.values.LiteralObjects.{objects_of_each_length}
use Rattle.sch_word.specs.runs.ProgramLayout.{data_address}
use Rattle.sch_word.proofs.facts.Lists.{not_missing}
use Rattle.sch_asm.specs.declared.assembly.Word.{Word}
use Rattle.sch_asm.specs.declared.assembly.Word.TheVariants.{Fixed}
use Rattle.sch_asm.specs.Codes.{bytes_of}
use Rattle.sch_asm.specs.Data.{word_in, PieceAt}
use Rattle.sch_asm.proofs.Pieces.{piece_later}
use Rattle.sch_select_memory.specs.Parts.{Part, Parts, units, spot}
use Rattle.sch_select_memory.specs.Encoded.{max_symbols, NamesObject, IsWord}
use Rattle.sch_select_memory.specs.Heap.{ObjectAt, AreKinds, owner_of}
use Rattle.sch_select_memory.proofs.heap.Encodings.{fits, constant_word}
use Rattle.sch_select_data.specs.ObjectParts.{have_no_object, object_more, object_parts, parts_at, AreSpotted}
use Rattle.sch_select_data.specs.ObjectWords.{object_word, value_word, text_words, in_units, object_contents, objects_contents, objects_words}
use Rattle.sch_select_data.proofs.literals.ObjectSpots.{units_within, spotted_kinds, spotted_behind}
use Rattle.sch_select_data.proofs.literals.OwnWords.{spot_of, pair_word, vector_word, string_word}
use Rattle.sch_select_data.proofs.literals.Sizes.{objects_bound, contents_length, vector_more, string_more}
use Rattle.sch_select_data.proofs.literals.LiteralValues.{IsStanding, Holds, EachHolds, standing_at, holds_at, values_stand, each_holds}
use Rattle.sch_select_data.proofs.literals.WordBytes.{words_inside, word_bytes, word_bytes_length, behind_first, word_there, word_data, text_there}

-- ---- pieces

piece_front : (bytes : List ℕ) (a : ℕ) (xs ys : List ℕ) → PieceAt bytes a (xs ++ ys) → PieceAt bytes a xs
piece_front bytes a xs ys at =
    let high = at.high in
    record { rest = ys ++ at.rest; is = at.is ∙ append_assoc xs ys at.rest; low = at.low; high = omega (arith, length-append xs ys, high) }

split : (own : Parts) (bytes : List ℕ) (unit : ℕ) (x : Object) (xs : List Object) → PieceAt bytes (16 * unit) (word_bytes (objects_contents own (x ∷ xs)))
    → PieceAt bytes (16 * unit) (word_bytes (object_contents own x) ++ word_bytes (objects_contents own xs))
split own bytes unit x xs at = subst (PieceAt bytes (16 * unit)) (flat_map-append (to_le_bytes w64) (object_contents own x) (objects_contents own xs)) at

piece_back : (bytes : List ℕ) (a : ℕ) (xs ys : List ℕ) → PieceAt bytes a (xs ++ ys) → PieceAt bytes (a + length xs) ys
piece_back bytes a xs ys at =
    subst (PieceAt bytes (a + length xs)) (drop_at xs ys (length xs) refl) (piece_later bytes a (xs ++ ys) (length xs) (omega (arith, length-append xs ys)) at)

-- the words of an object lie from its unit on
contents_there : (own : Parts) (bytes : List ℕ) (m unit : ℕ) (objects : List Object) → PieceAt bytes (16 * unit) (word_bytes (objects_contents own objects))
    → (k : ℕ) (o : Object) → slice_get objects k ≡ Some o → PieceAt bytes (16 * (unit + units (object_parts m (take k objects)))) (word_bytes (object_contents own o))
contents_there own bytes m unit [] at k o e = absurd (let bad : None ≡ Some o = e in cc)
contents_there own bytes m unit (x ∷ xs) at zero o e =
    let place : 16 * unit ≡ 16 * (unit + 0) = omega arith in
    let here = piece_front bytes (16 * unit) (word_bytes (object_contents own x)) (word_bytes (objects_contents own xs)) (split own bytes unit x xs at) in
    subst (λ y. PieceAt bytes (16 * (unit + 0)) (word_bytes (object_contents own y))) (same_Some x o e) (subst (λ a. PieceAt bytes a (word_bytes (object_contents own x))) place here)
contents_there own bytes m unit (x ∷ xs) at (suc k) o e =
    let size = word_bytes_length (object_contents own x) in
    let count = contents_length own x in
    let behind = piece_back bytes (16 * unit) (word_bytes (object_contents own x)) (word_bytes (objects_contents own xs)) (split own bytes unit x xs at) in
    let next : 16 * unit + length (word_bytes (object_contents own x)) ≡ 16 * (unit + suc (object_more x)) = omega (arith, size, count) in
    let place : 16 * (unit + suc (object_more x) + units (object_parts (suc m) (take k xs))) ≡ 16 * (unit + units (object_parts m (x ∷ take k xs))) = omega arith in
    subst (λ a. PieceAt bytes a (word_bytes (object_contents own o))) place
    (contents_there own bytes (suc m) (unit + suc (object_more x)) xs (subst (λ a. PieceAt bytes a (word_bytes (objects_contents own xs))) next behind) k o e)

-- ---- words

word_at : (bytes : List ℕ) (unit : ℕ) (ws : List ℕ) → PieceAt bytes (16 * unit) (word_bytes ws) → (k w a : ℕ) → slice_get ws k ≡ Some w → w < 2 ^ 64 → a ≡ 16 * unit + 8 * k → word_in bytes a ≡ w
word_at bytes unit ws at k w a e fits place = ap (word_in bytes) place ∙ word_there bytes (16 * unit) ws at k w e fits

in_units_get : (ws : List ℕ) (k w : ℕ) → slice_get ws k ≡ Some w → slice_get (in_units ws) k ≡ Some w
in_units_get [] k w e = e
in_units_get (a ∷ []) zero w e = e
in_units_get (a ∷ []) (suc k) w e = absurd (let bad : None ≡ Some w = e in cc)
in_units_get (a ∷ (b ∷ ws)) zero w e = e
in_units_get (a ∷ (b ∷ ws)) (suc zero) w e = e
in_units_get (a ∷ (b ∷ ws)) (suc (suc k)) w e = in_units_get ws k w e

-- what is put behind words to make whole units
filled : (ws : List ℕ) → (z : List ℕ) × (in_units ws ≡ ws ++ z)
filled [] = ([], refl)
filled (a ∷ []) = (0 ∷ [], refl)
filled (a ∷ (b ∷ ws)) = let r = filled ws in (r.0, ap (λ l. a ∷ (b ∷ l)) r.1)

text_at : (bytes : List ℕ) (unit : ℕ) (text : List ℕ) → PieceAt bytes (16 * unit) (word_bytes (in_units (8 * length text ∷ text_words ((length text + 7) / 8) text))) → are_bytes text ≡ true
    → take (length text) (drop (16 * unit + 8 - data_address) bytes) ≡ text
text_at bytes unit text at h =
    let count = (length text + 7) / 8 in
    let words = text_words count text in
    let z = filled (8 * length text ∷ words) in
    let at' = subst (λ l. PieceAt bytes (16 * unit) (word_bytes l)) z.1 at in
    let behind = behind_first bytes (16 * unit) (8 * length text) (words ++ z.0) at' in
    ap (take (length text)) (behind.is ∙ ap (λ l. l ++ behind.rest) (flat_map-append (to_le_bytes w64) words z.0) ∙ append_assoc (word_bytes words) (word_bytes z.0) behind.rest)
    ∙ text_there count text (word_bytes z.0 ++ behind.rest) (omega arith) h

-- ---- words of values

module _ (parts : Parts) (first : ℕ) (objects : List Object) (spotted : AreSpotted parts first objects)
    (few : parts.symbols ≤ max_symbols) (within : 16 * (first + units (object_parts 0 objects)) ≤ 2 ^ 31) where
  ends_within : (n : ℕ) (o : Object) → slice_get objects n ≡ Some o → 16 * (first + units (object_parts 0 (take n objects))) + 16 * suc (object_more o) ≤ 2 ^ 31
  ends_within n o e = let h = units_within 0 objects n o e in omega (arith, h, within)

  names : (n : ℕ) (o : Object) → slice_get objects n ≡ Some o → NamesObject parts n (object_word (parts_at first objects) n)
  names n (pair a d) e =
      let w = pair_word first objects n a d e in let h = ends_within n (pair a d) e in
      inl (record {
        at = record { unit = first + units (object_parts 0 (take n objects)); more = object_more (pair a d) };
        there = spotted.pairs n ∙ spot_of first objects n (pair a d) e;
        is = w;
        fits = omega (arith, w, h);
      })
  names n (vector es) e =
      let w = vector_word first objects n es e in let h = ends_within n (vector es) e in
      inr (inl (record {
        at = record { unit = first + units (object_parts 0 (take n objects)); more = object_more (vector es) };
        there = spotted.vectors n ∙ spot_of first objects n (vector es) e;
        is = w;
        fits = omega (arith, w, h);
      }))
  names n (string bytes) e =
      let w = string_word first objects n bytes e in let h = ends_within n (string bytes) e in
      inr (inr (record {
        at = record { unit = first + units (object_parts 0 (take n objects)); more = object_more (string bytes) };
        there = spotted.strings n ∙ spot_of first objects n (string bytes) e;
        is = w;
        fits = omega (arith, w, h);
      }))

  names_below : (n : ℕ) → n < length objects → NamesObject parts n (object_word (parts_at first objects) n)
  names_below n lt = by (slice_get objects n) refl
    where
      by : (o : Option Object) → slice_get objects n ≡ o → NamesObject parts n (object_word (parts_at first objects) n)
      by None e = absurd (not_missing objects n lt e)
      by (Some o) e = names n o e

  -- the word of a value
  pub value_there : (v : Value) → IsStanding parts.symbols (length objects) v → IsWord parts v (value_word (parts_at first objects) v)
  value_there (fixnum n) h = constant_word parts 0 (Fixnum n) (is_fixnum_holds n h) refl (omega arith) (omega arith)
  value_there (character byte) h = (refl, h)
  value_there (boolean b) h = refl
  value_there nil h = refl
  value_there unspecified h = refl
  value_there (symbol n) h = (refl, omega (arith, h, few), h)
  value_there (object n) h = names_below n h
  value_there (procedure n) h = absurd h
  value_there (cell n) h = absurd h

  value_fits : (v : Value) → IsStanding parts.symbols (length objects) v → value_word (parts_at first objects) v < 2 ^ 64
  value_fits v h = fits parts v (value_word (parts_at first objects) v) (value_there v h)

  -- ---- objects

  object_at : (bytes : List ℕ) (unit n : ℕ) (o : Object) → Holds parts.symbols (length objects) o → PieceAt bytes (16 * unit) (word_bytes (object_contents (parts_at first objects) o))
      → spot parts (owner_of n o) ≡ Some (record { unit = unit; more = object_more o }) → 16 * unit + 16 * suc (object_more o) ≤ 2 ^ 31 → ObjectAt parts bytes n o
  object_at bytes unit n (pair a d) h at s le = record {
    at = record { unit = unit; more = object_more (pair a d) };
    there = s;
    first = subst (IsWord parts a) (sym (word_at bytes unit (object_contents (parts_at first objects) (pair a d)) at 0 (value_word (parts_at first objects) a) (16 * unit) refl (value_fits a h.0)
        (omega arith))) (value_there a h.0);
    rest = subst (IsWord parts d) (sym (word_at bytes unit (object_contents (parts_at first objects) (pair a d)) at 1 (value_word (parts_at first objects) d) (16 * unit + 8) refl
        (value_fits d h.1) (omega arith))) (value_there d h.1);
  }
  object_at bytes unit n (vector es) h at s le =
      let more = vector_more (length es) in
      let word = value_word (parts_at first objects) in
      let words = 8 * length (map word es) ∷ map word es in
      let size = length-map es word in
      record {
        at = record { unit = unit; more = object_more (vector es) };
        there = s;
        room = omega (arith, more);
        size = word_at bytes unit (in_units words) at 0 (8 * length (map word es)) (16 * unit) (in_units_get words 0 (8 * length (map word es)) refl) (omega (arith, more, size, le)) (omega arith)
            ∙ ap (λ k. 8 * k) size;
        element = λ k v e.
            let stands = standing_at parts.symbols (length objects) es h k v e in
            let there : slice_get (map word es) k ≡ Some (word v) = slice_get-map word es k ∙ ap (option_map word) e in
            subst (IsWord parts v)
            (sym (word_at bytes unit (in_units words) at (suc k) (word v) (16 * unit + 8 + 8 * k) (in_units_get words (suc k) (word v) there) (value_fits v stands) (omega arith)))
            (value_there v stands);
      }
  object_at bytes unit n (string text) h at s le =
      let more = string_more (length text) in
      let count = (length text + 7) / 8 in
      let words = 8 * length text ∷ text_words count text in
      record {
        at = record { unit = unit; more = object_more (string text) };
        there = s;
        room = omega (arith, more);
        size = word_at bytes unit (in_units words) at 0 (8 * length text) (16 * unit) (in_units_get words 0 (8 * length text) refl) (omega (arith, more, le)) (omega arith);
        text_is = text_at bytes unit text at h;
        are_bytes = h;
      }

  spot_in : (n : ℕ) (o : Object) → slice_get objects n ≡ Some o → spot parts (owner_of n o) ≡ Some (record { unit = first + units (object_parts 0 (take n objects)); more = object_more o })
  spot_in n (pair a d) e = spotted.pairs n ∙ spot_of first objects n (pair a d) e
  spot_in n (vector es) e = spotted.vectors n ∙ spot_of first objects n (vector es) e
  spot_in n (string text) e = spotted.strings n ∙ spot_of first objects n (string text) e

  pub object_there : (bytes : List ℕ) → EachHolds parts.symbols (length objects) objects → PieceAt bytes (16 * first) (word_bytes (objects_contents (parts_at first objects) objects))
      → (n : ℕ) (o : Object) → slice_get objects n ≡ Some o → ObjectAt parts bytes n o
  object_there bytes h at n o e =
      object_at bytes (first + units (object_parts 0 (take n objects))) n o
      (holds_at parts.symbols (length objects) objects h n o e)
      (contents_there (parts_at first objects) bytes 0 first objects at n o e)
      (spot_in n o e) (ends_within n o e)

-- ---- the objects of literals

-- The objects that literals are have their parts, the parts of objects are theirs, and the values of the
-- literals have their words.
pub record AreThere (parts : Parts) (first : ℕ) (ls : Literals) (bytes : List ℕ) : Type 0 where
  pub object : (n : ℕ) (o : Object) → slice_get (objects_of_each ls 0) n ≡ Some o → ObjectAt parts bytes n o
  pub kinds : AreKinds parts (objects_of_each ls 0)
  pub value : (k : ℕ) (v : Value) → slice_get (literal_values ls 0) k ≡ Some v → IsWord parts v (value_word (parts_at first (objects_of_each ls 0)) v)

pub objects_there : (parts : Parts) (first : ℕ) (ls : Literals) (bytes : List ℕ) (place : ℕ → ℕ)
    → AreSpotted parts first (objects_of_each ls 0)
    → literals_in_range ls ≡ true → literals_known parts.symbols ls ≡ true → parts.symbols ≤ max_symbols
    → 16 * (first + units (object_parts 0 (objects_of_each ls 0))) ≤ 2 ^ 31
    → PieceAt bytes (16 * first) (flat_map (bytes_of place) (objects_words (parts_at first (objects_of_each ls 0)) (objects_of_each ls 0)))
    → AreThere parts first ls bytes
objects_there parts first ls bytes place spotted range known few within at =
    let objects = objects_of_each ls 0 in
    let size : length objects ≡ objects_in_each ls = objects_of_each_length ls 0 in
    let below : 0 + objects_in_each ls ≤ length objects = omega (arith, size) in
    let at' = subst (PieceAt bytes (16 * first)) (word_data place (objects_contents (parts_at first objects) objects)) at in
    record {
      object = object_there parts first objects spotted few within bytes (each_holds parts.symbols (length objects) ls 0 range known below) at';
      kinds = spotted_kinds first objects parts spotted;
      value = λ k' v e. value_there parts first objects spotted few within v
          (standing_at parts.symbols (length objects) (literal_values ls 0) (values_stand parts.symbols (length objects) ls 0 range known below) k' v e);
    }

-- the word of each literal is the one that is listed for it
pub literal_listed : (first : ℕ) (ls : Literals) (k : ℕ) (v : Value) → slice_get (literal_values ls 0) k ≡ Some v
    → slice_get (map Fixed (map (value_word (parts_at first (objects_of_each ls 0))) (literal_values ls 0))) k ≡ Some (Fixed (value_word (parts_at first (objects_of_each ls 0)) v))
literal_listed first ls k v e =
    let word = value_word (parts_at first (objects_of_each ls 0)) in
    slice_get-map Fixed (map word (literal_values ls 0)) k
    ∙ ap (option_map Fixed) (slice_get-map word (literal_values ls 0) k ∙ ap (option_map word) e)

-- Behind parts of procedures and cells, in data where the words of the objects stand among others.
pub objects_behind : (first symbols : ℕ) (front : List Part) (ls : Literals) (place : ℕ → ℕ) (before behind : List Word) (rest bytes : List ℕ)
    → have_no_object front ≡ true
    → literals_in_range ls ≡ true → literals_known symbols ls ≡ true → symbols ≤ max_symbols
    → 16 * (first + units front + 2 * literals_size ls) ≤ 2 ^ 31
    → bytes ≡ flat_map (bytes_of place) (before ++ (objects_words (parts_at (first + units front) (objects_of_each ls 0)) (objects_of_each ls 0) ++ behind)) ++ rest
    → 16 * (first + units front) ≡ data_address + 8 * length before
    → AreThere (record { first = first; list = front ++ object_parts 0 (objects_of_each ls 0); symbols = symbols }) (first + units front) ls bytes
objects_behind first symbols front ls place before behind rest bytes none range known few within e at =
    let objects = objects_of_each ls 0 in
    let own = first + units front in
    let bound = objects_bound ls in
    objects_there (record { first = first; list = front ++ object_parts 0 objects; symbols = symbols }) own ls bytes place
    (spotted_behind symbols first front objects none) range known few (omega (arith, bound, within))
    (words_inside place before (objects_words (parts_at own objects) objects) behind rest bytes (16 * own) e at)
