-- Literals whose objects lie one behind the other have the words of these objects, with the parts of all.
use Rattle.std.proofs.Common.{◌≡◌, ℕ, zero, suc, ◌+◌, ◌*◌, ◌/◌, List, [], ◌∷◌, ◌++◌, length, take, map, Some, None, refl, sym, ap, ◌∙◌, subst, arith, append_assoc}
use Rattle.std.specs.Prelude.{slice_get}
use Rattle.std.proofs.lemmas.List.{append-nil}
use Rattle.sch_word.specs.declared.constant.Const.{Const}
use Rattle.sch_word.specs.declared.constant.Const.TheVariants.{Fixnum, Character, Boolean, Nil, Unspecified, Symbol}
use Rattle.sch_word.specs.values.Values.{Value, object, constant_value, Object, pair, vector, string}
use Rattle.sch_word.specs.values.Literals.{Literal, Literals, constant, text, list, elements, no_literals, and_literal, count_literals, objects_in, objects_in_each, literal_value, literal_values, literal_objects, objects_of_each}
use Rattle.sch_word.specs.runs.Charges.{linked}
use Rattle.sch_word.proofs.values.LiteralObjects.{linked_length, literal_values_length, literal_objects_length, objects_of_each_length}
use Rattle.sch_select_memory.specs.Parts.{Parts, units}
use Rattle.sch_select_memory.specs.Encoded.{pair_tag, vector_tag, string_tag}
use Rattle.sch_select_data.specs.ObjectParts.{object_parts, parts_at}
use Rattle.sch_select_data.specs.ObjectWords.{object_word, value_word, vector_contents, object_contents, objects_contents}
use Rattle.sch_select_data.specs.PlacedWords.{units_in, units_in_each, placed_value, placed_values, linked_words, placed_words, placed_each}
use Rattle.sch_select_data.proofs.literals.OwnWords.{pair_word, vector_word, string_word}
use Rattle.sch_select_data.proofs.literals.Sizes.{units_append, units_any, linked_units, literal_units, each_units, vector_more}

-- ---- lists

get_front : (xs ys : List Object) (k : ℕ) (o : Object) → slice_get xs k ≡ Some o → (slice_get (xs ++ ys) k ≡ Some o) × (take k (xs ++ ys) ≡ take k xs)
get_front [] ys k o e = absurd (let bad : None ≡ Some o = e in cc)
get_front (x ∷ xs) ys zero o e = (e, refl)
get_front (x ∷ xs) ys (suc k) o e = let r = get_front xs ys k o e in (r.0, ap (λ l. x ∷ l) r.1)

get_behind : (xs ys : List Object) (n k : ℕ) → n ≡ length xs + k → (slice_get (xs ++ ys) n ≡ slice_get ys k) × (take n (xs ++ ys) ≡ xs ++ take k ys)
get_behind [] ys n k e = let z : n ≡ k = omega (arith, e) in (ap (slice_get ys) z, ap (λ n. take n ys) z)
get_behind (x ∷ xs) ys zero k e = absurd (omega (arith, e))
get_behind (x ∷ xs) ys (suc n) k e = let r = get_behind xs ys n k (omega (arith, e)) in (r.0, ap (λ l. x ∷ l) r.1)

contents_append : (own : Parts) (xs ys : List Object) → objects_contents own (xs ++ ys) ≡ objects_contents own xs ++ objects_contents own ys
contents_append own [] ys = refl
contents_append own (x ∷ xs) ys = ap (λ l. object_contents own x ++ l) (contents_append own xs ys) ∙ sym (append_assoc (object_contents own x) (objects_contents own xs) (objects_contents own ys))

-- ---- objects among others

module _ (first : ℕ) (objects : List Object) where
  -- These objects are the ones from the number n on, and lie from a unit on.
  record ArePlaced (n unit : ℕ) (xs : List Object) : Type 0 where
    get : (k : ℕ) (o : Object) → slice_get xs k ≡ Some o → slice_get objects (n + k) ≡ Some o
    place : (k : ℕ) (o : Object) → slice_get xs k ≡ Some o → first + units (object_parts 0 (take (n + k) objects)) ≡ unit + units (object_parts 0 (take k xs))

  front : (n unit : ℕ) (xs ys : List Object) → ArePlaced n unit (xs ++ ys) → ArePlaced n unit xs
  front n unit xs ys h = record {
    get = λ k o e. h.get k o (get_front xs ys k o e).0;
    place = λ k o e. let r = get_front xs ys k o e in h.place k o r.0 ∙ ap (λ l. unit + units (object_parts 0 l)) r.1;
  }

  back : (n unit : ℕ) (xs ys : List Object) (m next : ℕ) → n + length xs ≡ m → unit + units (object_parts 0 xs) ≡ next → ArePlaced n unit (xs ++ ys) → ArePlaced m next ys
  back n unit xs ys m next at from h = record {
    get = λ k o e.
        let r = get_behind xs ys (length xs + k) k refl in
        let z : n + (length xs + k) ≡ m + k = omega (arith, at) in
        ap (slice_get objects) (sym z) ∙ h.get (length xs + k) o (r.0 ∙ e);
    place = λ k o e.
        let r = get_behind xs ys (length xs + k) k refl in
        let z : n + (length xs + k) ≡ m + k = omega (arith, at) in
        let a = units_append 0 xs (take k ys) in
        let b = units_any (0 + length xs) 0 (take k ys) in
        let c = h.place (length xs + k) o (r.0 ∙ e) in
        let d = ap (λ l. units (object_parts 0 l)) r.1 in
        ap (λ j. first + units (object_parts 0 (take j objects))) (sym z) ∙ omega (arith, a, b, c, d, from);
  }

  -- the first of them
  first_get : (n unit : ℕ) (xs : List Object) → ArePlaced n unit xs → (o : Object) → slice_get xs 0 ≡ Some o → slice_get objects n ≡ Some o
  first_get n unit xs h o e = let z : n + 0 ≡ n = omega arith in ap (slice_get objects) (sym z) ∙ h.get 0 o e

  first_place : (n unit : ℕ) (xs : List Object) → ArePlaced n unit xs → (o : Object) → slice_get xs 0 ≡ Some o → first + units (object_parts 0 (take n objects)) ≡ unit
  first_place n unit xs h o e =
      let z : n + 0 ≡ n = omega arith in
      let g = h.place 0 o e in
      ap (λ n. first + units (object_parts 0 (take n objects))) (sym z) ∙ omega (arith, g)

  pair_placed : (n unit : ℕ) (xs : List Object) → ArePlaced n unit xs → (a d : Value) → slice_get xs 0 ≡ Some (pair a d) → object_word (parts_at first objects) n ≡ 16 * unit + pair_tag
  pair_placed n unit xs h a d e =
      pair_word first objects n a d (first_get n unit xs h (pair a d) e) ∙ ap (λ u. 16 * u + pair_tag) (first_place n unit xs h (pair a d) e)

  vector_placed : (n unit : ℕ) (xs : List Object) → ArePlaced n unit xs → (es : List Value) → slice_get xs 0 ≡ Some (vector es) → object_word (parts_at first objects) n ≡ 16 * unit + vector_tag
  vector_placed n unit xs h es e =
      vector_word first objects n es (first_get n unit xs h (vector es) e) ∙ ap (λ u. 16 * u + vector_tag) (first_place n unit xs h (vector es) e)

  string_placed : (n unit : ℕ) (xs : List Object) → ArePlaced n unit xs → (bytes : List ℕ) → slice_get xs 0 ≡ Some (string bytes) → object_word (parts_at first objects) n ≡ 16 * unit + string_tag
  string_placed n unit xs h bytes e =
      string_word first objects n bytes (first_get n unit xs h (string bytes) e) ∙ ap (λ u. 16 * u + string_tag) (first_place n unit xs h (string bytes) e)

  -- ---- the pairs of a list

  linked_first : (n unit : ℕ) (v : Value) (vs : List Value) (last : Value) → ArePlaced n unit (linked n (v ∷ vs) last) → object_word (parts_at first objects) n ≡ 16 * unit + pair_tag
  linked_first n unit v [] last h = pair_placed n unit (linked n (v ∷ []) last) h v last refl
  linked_first n unit v (w ∷ vs) last h = pair_placed n unit (linked n (v ∷ (w ∷ vs)) last) h v (object (suc n)) refl

  linked_placed : (n unit : ℕ) (vs : List Value) (last : Value) → ArePlaced n unit (linked n vs last)
      → objects_contents (parts_at first objects) (linked n vs last) ≡ linked_words unit (map (value_word (parts_at first objects)) vs) (value_word (parts_at first objects) last)
  linked_placed n unit [] last h = refl
  linked_placed n unit (v ∷ []) last h = refl
  linked_placed n unit (v ∷ (w ∷ vs)) last h =
      let behind = back n unit (pair v (object (suc n)) ∷ []) (linked (suc n) (w ∷ vs) last) (suc n) (suc unit) (omega arith) (omega arith) h in
      ap (λ l. value_word (parts_at first objects) v ∷ (object_word (parts_at first objects) (suc n) ∷ l)) (linked_placed (suc n) (suc unit) (w ∷ vs) last behind)
      ∙ ap (λ x. value_word (parts_at first objects) v ∷ (x ∷ linked_words (suc unit) (map (value_word (parts_at first objects)) (w ∷ vs)) (value_word (parts_at first objects) last)))
      (linked_first (suc n) (suc unit) w vs last behind)

  -- ---- the parts of a literal

  -- of a list: its pairs, its elements' objects, and those behind
  pairs_part : (ls : Literals) (tail : Literal) (n unit : ℕ) → ArePlaced n unit (literal_objects (list ls tail) n)
      → ArePlaced n unit (linked n (literal_values ls (n + count_literals ls)) (literal_value tail (n + count_literals ls + objects_in_each ls)))
  pairs_part ls tail n unit h =
      let inner = n + count_literals ls in
      let behind = inner + objects_in_each ls in
      front n unit (linked n (literal_values ls inner) (literal_value tail behind)) (objects_of_each ls inner ++ literal_objects tail behind) h

  rest_part : (ls : Literals) (tail : Literal) (n unit : ℕ) → ArePlaced n unit (literal_objects (list ls tail) n)
      → ArePlaced (n + count_literals ls) (unit + count_literals ls) (objects_of_each ls (n + count_literals ls) ++ literal_objects tail (n + count_literals ls + objects_in_each ls))
  rest_part ls tail n unit h =
      let inner = n + count_literals ls in
      let behind = inner + objects_in_each ls in
      let pairs = linked n (literal_values ls inner) (literal_value tail behind) in
      let count = linked_length n (literal_values ls inner) (literal_value tail behind) ∙ literal_values_length ls inner in
      let size = linked_units 0 n (literal_values ls inner) (literal_value tail behind) ∙ literal_values_length ls inner in
      back n unit pairs (objects_of_each ls inner ++ literal_objects tail behind) inner (unit + count_literals ls) (ap (λ k. n + k) count) (ap (λ k. unit + k) size) h

  items_part : (ls : Literals) (tail : Literal) (n unit : ℕ) → ArePlaced n unit (literal_objects (list ls tail) n)
      → ArePlaced (n + count_literals ls) (unit + count_literals ls) (objects_of_each ls (n + count_literals ls))
  items_part ls tail n unit h =
      front (n + count_literals ls) (unit + count_literals ls) (objects_of_each ls (n + count_literals ls)) (literal_objects tail (n + count_literals ls + objects_in_each ls))
      (rest_part ls tail n unit h)

  tail_part : (ls : Literals) (tail : Literal) (n unit : ℕ) → ArePlaced n unit (literal_objects (list ls tail) n)
      → ArePlaced (n + count_literals ls + objects_in_each ls) (unit + count_literals ls + units_in_each ls) (literal_objects tail (n + count_literals ls + objects_in_each ls))
  tail_part ls tail n unit h =
      let inner = n + count_literals ls in
      back inner (unit + count_literals ls) (objects_of_each ls inner) (literal_objects tail (inner + objects_in_each ls)) (inner + objects_in_each ls) (unit + count_literals ls + units_in_each ls)
      (ap (λ k. inner + k) (objects_of_each_length ls inner)) (ap (λ k. unit + count_literals ls + k) (each_units 0 ls inner)) (rest_part ls tail n unit h)

  -- of a vector: its elements' objects
  elements_part : (ls : Literals) (n unit : ℕ) → ArePlaced n unit (literal_objects (elements ls) n) → ArePlaced (suc n) (unit + (1 + count_literals ls / 2)) (objects_of_each ls (suc n))
  elements_part ls n unit h =
      let m = vector_more (length (literal_values ls (suc n))) in
      let k = ap (λ k. k / 2) (literal_values_length ls (suc n)) in
      back n unit (vector (literal_values ls (suc n)) ∷ []) (objects_of_each ls (suc n)) (suc n) (unit + (1 + count_literals ls / 2)) (omega arith) (omega (arith, m, k)) h

  -- of literals: the objects of the first one, and those of the others
  head_part : (l : Literal) (ls : Literals) (n unit : ℕ) → ArePlaced n unit (objects_of_each (and_literal l ls) n) → ArePlaced n unit (literal_objects l n)
  head_part l ls n unit h = front n unit (literal_objects l n) (objects_of_each ls (n + objects_in l)) h

  others_part : (l : Literal) (ls : Literals) (n unit : ℕ) → ArePlaced n unit (objects_of_each (and_literal l ls) n)
      → ArePlaced (n + objects_in l) (unit + units_in l) (objects_of_each ls (n + objects_in l))
  others_part l ls n unit h =
      back n unit (literal_objects l n) (objects_of_each ls (n + objects_in l)) (n + objects_in l) (unit + units_in l)
      (ap (λ k. n + k) (literal_objects_length l n)) (ap (λ k. unit + k) (literal_units 0 l n)) h

  -- ---- values

  constant_placed : (c : Const) (unit : ℕ) → value_word (parts_at first objects) (constant_value c) ≡ placed_value (constant c) unit
  constant_placed (Fixnum z) unit = refl
  constant_placed (Character byte) unit = refl
  constant_placed (Boolean b) unit = refl
  constant_placed Nil unit = refl
  constant_placed Unspecified unit = refl
  constant_placed (Symbol k) unit = refl

  value_placed : (l : Literal) (n unit : ℕ) → ArePlaced n unit (literal_objects l n) → value_word (parts_at first objects) (literal_value l n) ≡ placed_value l unit
  value_placed (constant c) n unit h = constant_placed c unit
  value_placed (text bytes) n unit h = string_placed n unit (literal_objects (text bytes) n) h bytes refl
  value_placed (list no_literals tail) n unit h =
      let a : n + 0 + 0 ≡ n = omega arith in
      let b : unit + 0 + 0 ≡ unit = omega arith in
      value_placed tail n unit (subst (λ m. ArePlaced m unit (literal_objects tail m)) a
      (subst (λ u. ArePlaced (n + 0 + 0) u (literal_objects tail (n + 0 + 0))) b (tail_part no_literals tail n unit h)))
  value_placed (list (and_literal l ls) tail) n unit h =
      let inner = n + count_literals (and_literal l ls) in
      linked_first n unit (literal_value l inner) (literal_values ls (inner + objects_in l)) (literal_value tail (inner + objects_in_each (and_literal l ls)))
      (pairs_part (and_literal l ls) tail n unit h)
  value_placed (elements ls) n unit h = vector_placed n unit (literal_objects (elements ls) n) h (literal_values ls (suc n)) refl

  values_placed : (ls : Literals) (n unit : ℕ) → ArePlaced n unit (objects_of_each ls n) → map (value_word (parts_at first objects)) (literal_values ls n) ≡ placed_values ls unit
  values_placed no_literals n unit h = refl
  values_placed (and_literal l ls) n unit h =
      ap (λ v. v ∷ map (value_word (parts_at first objects)) (literal_values ls (n + objects_in l))) (value_placed l n unit (head_part l ls n unit h))
      ∙ ap (λ l'. placed_value l unit ∷ l') (values_placed ls (n + objects_in l) (unit + units_in l) (others_part l ls n unit h))

  -- ---- words

  mutual
    words_placed : (l : Literal) (n unit : ℕ) → ArePlaced n unit (literal_objects l n) → objects_contents (parts_at first objects) (literal_objects l n) ≡ placed_words l unit
    words_placed (constant c) n unit h = refl
    words_placed (text bytes) n unit h = append-nil (object_contents (parts_at first objects) (string bytes))
    words_placed (list ls tail) n unit h =
        let own = parts_at first objects in
        let inner = n + count_literals ls in
        let behind = inner + objects_in_each ls in
        let pairs = linked n (literal_values ls inner) (literal_value tail behind) in
        let inner' = unit + count_literals ls in
        let behind' = inner' + units_in_each ls in
        contents_append own pairs (objects_of_each ls inner ++ literal_objects tail behind)
        ∙ ap (λ x. objects_contents own pairs ++ x) (contents_append own (objects_of_each ls inner) (literal_objects tail behind))
        ∙ ap (λ x. x ++ (objects_contents own (objects_of_each ls inner) ++ objects_contents own (literal_objects tail behind)))
        (linked_placed n unit (literal_values ls inner) (literal_value tail behind) (pairs_part ls tail n unit h)
        ∙ ap (λ vs. linked_words unit vs (value_word own (literal_value tail behind))) (values_placed ls inner inner' (items_part ls tail n unit h))
        ∙ ap (linked_words unit (placed_values ls inner')) (value_placed tail behind behind' (tail_part ls tail n unit h)))
        ∙ ap (λ x. linked_words unit (placed_values ls inner') (placed_value tail behind') ++ (x ++ objects_contents own (literal_objects tail behind)))
        (each_placed ls inner inner' (items_part ls tail n unit h))
        ∙ ap (λ x. linked_words unit (placed_values ls inner') (placed_value tail behind') ++ (placed_each ls inner' ++ x)) (words_placed tail behind behind' (tail_part ls tail n unit h))
    words_placed (elements ls) n unit h =
        let own = parts_at first objects in
        let inner' = unit + (1 + count_literals ls / 2) in
        ap (λ vs. vector_contents vs ++ objects_contents own (objects_of_each ls (suc n))) (values_placed ls (suc n) inner' (elements_part ls n unit h))
        ∙ ap (λ x. vector_contents (placed_values ls inner') ++ x) (each_placed ls (suc n) inner' (elements_part ls n unit h))

    each_placed : (ls : Literals) (n unit : ℕ) → ArePlaced n unit (objects_of_each ls n) → objects_contents (parts_at first objects) (objects_of_each ls n) ≡ placed_each ls unit
    each_placed no_literals n unit h = refl
    each_placed (and_literal l ls) n unit h =
        contents_append (parts_at first objects) (literal_objects l n) (objects_of_each ls (n + objects_in l))
        ∙ ap (λ x. x ++ objects_contents (parts_at first objects) (objects_of_each ls (n + objects_in l))) (words_placed l n unit (head_part l ls n unit h))
        ∙ ap (λ x. placed_words l unit ++ x) (each_placed ls (n + objects_in l) (unit + units_in l) (others_part l ls n unit h))

  -- all of them
  all_placed : ArePlaced 0 first objects
  all_placed = record {
    get = λ k o e. let z : 0 + k ≡ k = omega arith in ap (slice_get objects) z ∙ e;
    place = λ k o e. let z : 0 + k ≡ k = omega arith in ap (λ k. first + units (object_parts 0 (take k objects))) z;
  }

-- the words of literals from a unit on, with their objects' parts
pub placed_objects : (first : ℕ) (ls : Literals) → objects_contents (parts_at first (objects_of_each ls 0)) (objects_of_each ls 0) ≡ placed_each ls first
placed_objects first ls = each_placed first (objects_of_each ls 0) ls 0 first (all_placed first (objects_of_each ls 0))

pub placed_literals : (first : ℕ) (ls : Literals) → map (value_word (parts_at first (objects_of_each ls 0))) (literal_values ls 0) ≡ placed_values ls first
placed_literals first ls = values_placed first (objects_of_each ls 0) ls 0 first (all_placed first (objects_of_each ls 0))
