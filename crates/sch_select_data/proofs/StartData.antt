-- The data of a program at its start.
use Rattle.std.proofs.Common.{◌≡◌, ℕ, zero, suc, ◌+◌, ◌-◌, ◌*◌, ◌%◌, ◌^◌, ◌<◌, ◌≤◌, List, [], ◌∷◌, ◌++◌, length}
use Rattle.std.proofs.Common.{map, take, drop, true, cond, Option, Some, None, refl, sym, ap, ◌∙◌, subst, arith}
use Rattle.std.proofs.Common.{length-append, eq-eqb}
use Rattle.std.specs.Prelude.{slice_get, replicate, nat_lt}
use Rattle.std.specs.Option.{option_map}
use Rattle.std.specs.List.{flat_map}
use Rattle.std.proofs.lemmas.Bool.{and_parts, ltb-true, ne_eqb}
use Rattle.std.proofs.lemmas.List.{length-map, length-replicate}
use Rattle.std.proofs.lemmas.Option.{slice_get-map}
use Rattle.sch_word.specs.values.Values.{Value, Object, pair, vector, string}
use Rattle.sch_word.specs.values.Literals.{Literals, count_literals, literal_values, objects_of_each}
use Rattle.sch_word.specs.values.Literals.{literals_known, literals_in_range}
use Rattle.sch_word.specs.runs.Runs.{Statics, library_known, starting_value}
use Rattle.sch_word.specs.runs.Procedures.{Procedure, library_procedures}
use Rattle.sch_word.specs.runs.ProgramLayout.{data_address}
use Rattle.sch_asm.specs.declared.assembly.Word.{Word}
use Rattle.sch_asm.specs.declared.assembly.Word.TheVariants.{Fixed, Address}
use Rattle.sch_asm.specs.Codes.{bytes_of}
use Rattle.sch_asm.specs.Data.{word_in, PieceAt}
use Rattle.sch_asm.specs.Effects.{own_size}
use Rattle.sch_asm.specs.declared.routine.TheConstants.{OWN_WORDS}
use Rattle.sch_select_memory.specs.Parts.{a_procedure, a_cell, Part, Parts, units, end_of, spot_from, spot}
use Rattle.sch_select_memory.specs.Encoded.{IsWord, IsHeld}
use Rattle.sch_select_memory.specs.Heap.{RecordAt, HeapAt, AreNew}
use Rattle.sch_select_memory.proofs.heap.Encodings.{fits}
use Rattle.sch_select_memory.proofs.heap.Spots.{units_append}
use Rattle.sch_select_data.specs.ObjectParts.{object_parts, parts_at, have_no_object, AreSpotted}
use Rattle.sch_select_data.specs.ObjectWords.{value_word}
use Rattle.sch_select_data.specs.PlacedWords.{units_in_each, placed_values, placed_each}
use Rattle.sch_select_data.proofs.literals.ObjectSpots.{spotted_behind}
use Rattle.sch_select_data.proofs.literals.ObjectsThere.{AreThere, objects_there}
use Rattle.sch_select_data.proofs.literals.PlacedLiterals.{placed_objects, placed_literals}
use Rattle.sch_select_data.proofs.literals.Sizes.{each_units, objects_contents_length}
use Rattle.sch_select_data.proofs.literals.WordBytes.{word_bytes}
use Rattle.sch_select_data.proofs.literals.PutSteps.{placed_values_length}
use Rattle.sch_select_memory.specs.Addresses.{body_label, globals_address, global_address, literal_address, bytes_address, literals_address}
use Rattle.sch_select_memory.specs.Addresses.{names_address, table_address}
use Rattle.sch_select_data.specs.NameWords.{symbol_words, symbols_count}
use Rattle.sch_select_memory.specs.StaticBytes.{static_bytes}
use Rattle.sch_select_data.specs.Data.{word_list, global_word, global_words, padding, closure_words, data_words}
use Rattle.sch_select_data.specs.Data.{static_count, closures_unit, objects_unit, heap_address, max_heap_address}
use Rattle.sch_select_data.proofs.Pieces.{spelled, spelled_count, spelled_fixed, WordsAt, whole_words, word_there}
use Rattle.sch_select_data.proofs.Pieces.{front_words, later_words, taken}
use Rattle.sch_select_data.proofs.SymbolNames.{symbol_words_count}

-- ---- the words of globals and closures

global_there : (closures : ℕ) (globals : List (Option ℕ)) (g : ℕ) (o : Option ℕ) → slice_get globals g ≡ Some o
    → slice_get (global_words closures globals) g ≡ Some (global_word closures o)
global_there closures [] g o e = absurd (let bad : None ≡ Some o = e in cc)
global_there closures (x ∷ globals) zero o e = let f : Some x ≡ Some o = e in let same : x ≡ o = cc in ap
    (λ o. Some (global_word closures o)) same
global_there closures (x ∷ globals) (suc g) o e = global_there closures globals g o e

pub globals_count : (closures : ℕ) (globals : List (Option ℕ)) → length (global_words closures globals) ≡ length globals
globals_count closures [] = refl
globals_count closures (x ∷ globals) = ap suc (globals_count closures globals)

-- the record of a library's procedure
record IsLibrary (library : List ℕ) (k : ℕ) (p : Procedure) : Type 0 where
  label : ℕ
  is : p ≡ record { label = label; fields = [] }
  word : slice_get (closure_words library) (2 * k) ≡ Some (Address (body_label label))
  few : k < length library

library_there : (library : List ℕ) (k : ℕ) (p : Procedure) → slice_get (library_procedures library) k ≡ Some p
    → IsLibrary library k p
library_there [] k p e = absurd (let bad : None ≡ Some p = e in cc)
library_there (label ∷ library) zero p e =
    let f : Some (record { label = label; fields = [] }) ≡ Some p = e in
    let same : record { label = label; fields = [] } ≡ p = cc in
    record { label = label; is = sym same; word = refl; few = omega arith }
library_there (label ∷ library) (suc k) p e =
    let h = library_there library k p e in
    let two : 2 * suc k ≡ suc (suc (2 * k)) = omega arith in
    let f = h.few in
    record {
      label = h.label;
      is = h.is;
      word = ap (slice_get (closure_words (label ∷ library))) two
          ∙ h.word;
      few = omega (arith, f);
    }

pub closures_count : (library : List ℕ) → length (closure_words library) ≡ 2 * length library
closures_count [] = refl
closures_count (label ∷ library) = let h = closures_count library in omega (arith, h)

pub procedures_count : (library : List ℕ) → length (library_procedures library) ≡ length library
procedures_count [] = refl
procedures_count (label ∷ library) = ap suc (procedures_count library)

-- a global's procedure is one of the library's
known_below : (count : ℕ) (globals : List (Option ℕ)) (g n : ℕ) → library_known count globals ≡ true
    → slice_get globals g ≡ Some (Some n) → n < count
known_below count [] g n k e = absurd (let bad : None ≡ Some (Some n) = e in cc)
known_below count (None ∷ globals) zero n k e = absurd (let bad : Some None ≡ Some (Some n) = e in cc)
known_below count (None ∷ globals) (suc g) n k e = known_below count globals g n k e
known_below count (Some m ∷ globals) zero n k e = let f : Some (Some m) ≡ Some (Some n) = e in let same : m ≡ n =
    cc in let lt = ltb-true m count (and_parts (nat_lt m count) (library_known count globals) k).0 in omega
    (arith, lt, same)
known_below count (Some m ∷ globals) (suc g) n k e = known_below count globals g n
    (and_parts (nat_lt m count) (library_known count globals) k).1 e

-- ---- the first parts are the library's

abbrev pub library_parts : (n count : ℕ) → List Part
library_parts n zero = []
library_parts n (suc count) = record { owner = a_procedure n; more = 0 } ∷ library_parts (suc n) count

module _ (behind : List Part) where
  library_spot : (unit n count k : ℕ) → k < count → spot_from unit (library_parts n count ++ behind) (a_procedure (n + k)) ≡ Some
      (record { unit = unit + k; more = 0 })
  library_spot unit n zero k lt = absurd (omega (arith, lt))
  library_spot unit n (suc count) zero lt =
      let z : unit ≡ unit + 0 = omega arith in
      ap (λ b. cond b (Some (record { unit = unit; more = 0 }))
      (spot_from (unit + 1) (library_parts (suc n) count ++ behind) (a_procedure (n + 0)))) (eq-eqb n (n + 0) (omega arith))
      ∙ ap (λ u. Some (record { unit = u; more = 0 })) z
  library_spot unit n (suc count) (suc k) lt =
      let z : suc n + k ≡ n + suc k = omega arith in
      let u : unit + 1 + k ≡ unit + suc k = omega arith in
      ap (λ b. cond b (Some (record { unit = unit; more = 0 }))
      (spot_from (unit + 1) (library_parts (suc n) count ++ behind) (a_procedure (n + suc k))))
      (ne_eqb n (n + suc k) (λ e. omega (arith, e)))
      ∙ ap (λ m. spot_from (unit + 1) (library_parts (suc n) count ++ behind) (a_procedure m)) (sym z)
      ∙ library_spot (unit + 1) (suc n) count k (omega (arith, lt)) ∙ ap (λ u. Some (record { unit = u; more = 0 })) u

  no_cell : (unit n count m : ℕ) → ((u : ℕ) → spot_from u behind (a_cell m) ≡ None)
      → spot_from unit (library_parts n count ++ behind) (a_cell m) ≡ None
  no_cell unit n zero m none = none unit
  no_cell unit n (suc count) m none = no_cell (unit + 1) (suc n) count m none

  no_other : (unit n count m : ℕ) → ((u : ℕ) → spot_from u behind (a_procedure m) ≡ None) → n + count ≤ m
      → spot_from unit (library_parts n count ++ behind) (a_procedure m) ≡ None
  no_other unit n zero m none le = none unit
  no_other unit n (suc count) m none le =
      ap (λ b. cond b (Some (record { unit = unit; more = 0 }))
      (spot_from (unit + 1) (library_parts (suc n) count ++ behind) (a_procedure m))) (ne_eqb n m (λ e. omega (arith, e, le)))
      ∙ no_other (unit + 1) (suc n) count m none (omega (arith, le))

-- they are no objects, and take a unit each
no_objects : (n count : ℕ) → have_no_object (library_parts n count) ≡ true
no_objects n zero = refl
no_objects n (suc count) = no_objects (suc n) count

library_units : (n count : ℕ) → units (library_parts n count) ≡ count
library_units n zero = refl
library_units n (suc count) = let h = library_units (suc n) count in omega (arith, h)

-- ---- the parts of objects

object_no_cell : (m : ℕ) (objects : List Object) (k unit : ℕ) → spot_from unit (object_parts m objects) (a_cell k) ≡ None
object_no_cell m [] k unit = refl
object_no_cell m (pair a d ∷ os) k unit = object_no_cell (suc m) os k _
object_no_cell m (vector vs ∷ os) k unit = object_no_cell (suc m) os k _
object_no_cell m (string bs ∷ os) k unit = object_no_cell (suc m) os k _

object_no_procedure : (m : ℕ) (objects : List Object) (k unit : ℕ) → spot_from unit (object_parts m objects) (a_procedure k) ≡ None
object_no_procedure m [] k unit = refl
object_no_procedure m (pair a d ∷ os) k unit = object_no_procedure (suc m) os k _
object_no_procedure m (vector vs ∷ os) k unit = object_no_procedure (suc m) os k _
object_no_procedure m (string bs ∷ os) k unit = object_no_procedure (suc m) os k _

pub objects_count : (ls : Literals) (unit : ℕ) → length (placed_each ls unit) ≡ 2 * units_in_each ls
objects_count ls unit =
    let e = ap length (placed_objects unit ls) in
    let c = objects_contents_length (parts_at unit (objects_of_each ls 0)) 0 (objects_of_each ls 0) in
    let u = each_units 0 ls 0 in omega (arith, e, c, u)

-- ---- all of it

fixed_count : (ws : List ℕ) → length (map Fixed ws) ≡ length ws
fixed_count ws = length-map ws Fixed

unit_is : (c : ℕ) → 16 * closures_unit c ≡ literals_address + 8 * c + 8 * (suc c % 2)
unit_is c = omega arith

-- how long all lists are together
ends_by : (x y v g n p c o : List Word) (w : Word) (literals globals names library units : ℕ) → length x ≡ 64 → length y ≡ 36
    → length v ≡ literals → length g ≡ globals → length n ≡ names → length p ≡ suc (literals + (globals + names)) % 2
    → length c ≡ 2 * library → length o ≡ 2 * units
    → data_address + 8 * length (x ++ (y ++ (w ∷ (v ++ (g ++ (n ++ (p ++ (c ++ o)))))))) ≡
    heap_address (literals + (globals + names)) library units
ends_by x y v g n p c o w literals globals names library units e1 e2 e3 e4 e5 e6 e7 e8 =
    let a1 = length-append x (y ++ (w ∷ (v ++ (g ++ (n ++ (p ++ (c ++ o))))))) in
    let a2 = length-append y (w ∷ (v ++ (g ++ (n ++ (p ++ (c ++ o)))))) in
    let a3 = length-append v (g ++ (n ++ (p ++ (c ++ o)))) in
    let a4 = length-append g (n ++ (p ++ (c ++ o))) in
    let a5 = length-append n (p ++ (c ++ o)) in
    let a6 = length-append p (c ++ o) in
    let a7 = length-append c o in
    let u = unit_is (literals + (globals + names)) in
    omega (arith, a1, a2, a3, a4, a5, a6, a7, u, e1, e2, e3, e4, e5, e6, e7, e8)

bytes_sum : (xs ys : List ℕ) (k heap z : ℕ) → length xs ≡ 8 * k → length ys ≡ z → data_address + 8 * k ≡ heap
    → length (xs ++ ys) + data_address ≡ heap + z
bytes_sum xs ys k heap z a b c = let e = length-append xs ys in omega (arith, a, b, c, e)

module _ (place_of : ℕ → ℕ) (small : (l : ℕ) → place_of l < 2 ^ 31) (s : Statics) (library : List ℕ) (zeros : ℕ)
    (low : heap_address (static_count s) (length library) (units_in_each s.literals) ≤ max_heap_address) where
  abbrev count : ℕ
  count = static_count s

  abbrev literals : ℕ
  literals = count_literals s.literals

  abbrev globals : ℕ
  globals = length s.globals

  abbrev pub unit_at : ℕ
  unit_at = objects_unit (static_count s) (length library)

  abbrev pub names_at : ℕ
  names_at = names_address (count_literals s.literals) (length s.globals)

  abbrev pub closures_at : ℕ
  closures_at = 16 * closures_unit (static_count s)

  abbrev objects : List Object
  objects = objects_of_each s.literals 0

  abbrev value_words : List Word
  value_words = map Fixed (placed_values s.literals unit_at)

  abbrev gwords : List Word
  gwords = global_words closures_at s.globals

  abbrev name_list : List Word
  name_list = map Fixed (symbol_words names_at s.symbols)

  abbrev object_list : List Word
  object_list = map Fixed (placed_each s.literals unit_at)

  abbrev from_closures : List Word
  from_closures = closure_words library ++ object_list

  abbrev from_padding : List Word
  from_padding = padding (static_count s) ++ from_closures

  abbrev from_names : List Word
  from_names = name_list ++ from_padding

  abbrev from_globals : List Word
  from_globals = gwords ++ from_names

  abbrev from_values : List Word
  from_values = value_words ++ from_globals

  abbrev from_table : List Word
  from_table = Fixed names_at ∷ from_values

  abbrev from_static : List Word
  from_static = word_list static_bytes ++ from_table

  abbrev pub all_words : List Word
  all_words = data_words names_at closures_at unit_at s library

  abbrev pub all_bytes : List ℕ
  all_bytes = flat_map (bytes_of place_of) all_words ++ replicate zeros 0

  -- ---- how long the lists are

  values_size : length value_words ≡ literals
  values_size = fixed_count (placed_values s.literals unit_at) ∙ placed_values_length s.literals unit_at

  names_size : length name_list ≡ symbols_count s.symbols
  names_size = fixed_count (symbol_words names_at s.symbols) ∙ symbol_words_count names_at s.symbols

  padding_size : length (padding count) ≡ suc count % 2
  padding_size = length-replicate (suc count % 2) (Fixed 0)

  objects_size : length object_list ≡ 2 * units_in_each s.literals
  objects_size = fixed_count (placed_each s.literals unit_at) ∙ objects_count s.literals unit_at

  globals_size : length gwords ≡ globals
  globals_size = globals_count closures_at s.globals

  pub words_end : data_address + 8 * length all_words ≡ heap_address (static_count s) (length library) (units_in_each s.literals)
  words_end = ends_by (replicate OWN_WORDS (Fixed 0)) (word_list static_bytes) value_words gwords name_list (padding (static_count s))
      (closure_words library) object_list (Fixed names_at) literals globals (symbols_count s.symbols) (length library)
      (units_in_each s.literals) refl refl values_size globals_size names_size padding_size (closures_count library) objects_size

  pub bytes_count : length all_bytes + data_address ≡ heap_address (static_count s) (length library) (units_in_each s.literals) + zeros
  bytes_count = bytes_sum (spelled place_of all_words) (replicate zeros 0) (length all_words) _ zeros
      (spelled_count place_of all_words) (length-replicate {A = ℕ} zeros 0) words_end

  -- ---- where they are

  abbrev At : ℕ → List Word → Type 0
  At a ws = WordsAt place_of all_bytes a ws

  static_at : At bytes_address from_static
  static_at = later_words place_of all_bytes data_address (replicate OWN_WORDS (Fixed 0)) from_static
      (whole_words place_of all_words (replicate zeros 0)) bytes_address refl

  pub texts_there : take 288 (drop own_size all_bytes) ≡ static_bytes
  texts_there = taken all_bytes bytes_address static_bytes (front_words place_of all_bytes bytes_address (word_list static_bytes)
      from_table static_at)

  table_at : At table_address from_table
  table_at = later_words place_of all_bytes bytes_address (word_list static_bytes) from_table static_at table_address refl

  pub table_there : word_in all_bytes table_address ≡ names_at
  table_there = word_there place_of all_bytes table_address from_table table_at 0 (Fixed names_at) refl
      (let l = low in omega (arith, l))

  values_at : At literals_address from_values
  values_at = later_words place_of all_bytes table_address (Fixed names_at ∷ []) from_values table_at literals_address refl

  globals_at : At (globals_address literals) from_globals
  globals_at = later_words place_of all_bytes literals_address value_words from_globals values_at (globals_address literals)
      (let v = values_size in omega (arith, v))

  names_from : At names_at from_names
  names_from = later_words place_of all_bytes (globals_address literals) gwords from_names globals_at names_at
      (let g = globals_size in omega (arith, g))

  padding_at : At (names_at + 8 * symbols_count s.symbols) from_padding
  padding_at = later_words place_of all_bytes names_at name_list from_padding names_from
      (names_at + 8 * symbols_count s.symbols) (let n = names_size in omega (arith, n))

  closures_from : At closures_at from_closures
  closures_from = later_words place_of all_bytes (names_at + 8 * symbols_count s.symbols) (padding (static_count s)) from_closures
      padding_at closures_at (let p = padding_size in let e = unit_is (static_count s) in omega (arith, p, e))

  objects_from : At (16 * unit_at) object_list
  objects_from = later_words place_of all_bytes closures_at (closure_words library) object_list closures_from (16 * unit_at)
      (let c = closures_count library in omega (arith, c))

  -- ---- the names

  pub names_there : take (length (word_bytes (symbol_words names_at s.symbols))) (drop (names_at - data_address) all_bytes)
      ≡ word_bytes (symbol_words names_at s.symbols)
  names_there = taken all_bytes names_at (word_bytes (symbol_words names_at s.symbols))
      (subst (PieceAt all_bytes names_at) (spelled_fixed place_of (symbol_words names_at s.symbols))
      (front_words place_of all_bytes names_at name_list from_padding names_from))

  -- ---- the parts

  abbrev pub parts_at_start : Parts
  parts_at_start = record {
    first = closures_unit (static_count s);
    list = library_parts 0 (length library) ++ object_parts 0 (objects_of_each s.literals 0);
    symbols = length s.symbols;
  }

  pub ends_at : 16 * end_of parts_at_start ≡ heap_address (static_count s) (length library) (units_in_each s.literals)
  ends_at =
      let u = units_append (library_parts 0 (length library)) (object_parts 0 objects) in
      let l = library_units 0 (length library) in let o = each_units 0 s.literals 0 in omega (arith, u, l, o)

  -- where a record of the library is
  library_at : (k : ℕ) → k < length library → spot parts_at_start (a_procedure k) ≡ Some
      (record { unit = parts_at_start.first + k; more = 0 })
  library_at k lt = let z : 0 + k ≡ k = omega arith in ap (λ m. spot parts_at_start (a_procedure m)) (sym z)
      ∙ library_spot (object_parts 0 objects) parts_at_start.first 0 (length library) k lt

  -- ---- the globals

  pub globals_there : library_known (length library) s.globals ≡ true → (g : ℕ) (o : Option ℕ)
      → slice_get s.globals g ≡ Some o → IsHeld parts_at_start (starting_value o) (word_in all_bytes (global_address literals g))
  globals_there known g o e = by o e
    where
      words : At (globals_address literals) gwords
      words = front_words place_of all_bytes (globals_address literals) gwords from_names globals_at

      by : (o : Option ℕ) → slice_get s.globals g ≡ Some o → IsHeld parts_at_start (starting_value o)
          (word_in all_bytes (global_address literals g))
      by None e = word_there place_of all_bytes (globals_address literals) gwords words g (Fixed 38)
          (global_there closures_at s.globals g None e) (omega arith)
      by (Some n) e =
          let k = known_below (length library) s.globals g n known e in
          let l = low in
          let small : closures_at + 16 * n + 4 < 2 ^ 64 = omega (arith, k, l) in
          let word = word_there place_of all_bytes (globals_address literals) gwords words g (Fixed (closures_at + 16 * n + 4))
          (global_there closures_at s.globals g (Some n) e) small in
          record {
            at = record { unit = parts_at_start.first + n; more = 0 };
            there = library_at n k;
            is = word ∙ (let i : closures_at + 16 * n + 4 ≡ 16 * (parts_at_start.first + n) + 4 = omega arith in i);
            fits = omega (arith, word, small);
          }

  -- ---- literals, and all objects

  module _ (range : literals_in_range s.literals ≡ true) (known : literals_known (length s.symbols) s.literals ≡ true) where
    objects_are : AreThere parts_at_start unit_at s.literals all_bytes
    objects_are =
        let u = library_units 0 (length library) in
        let e = each_units 0 s.literals 0 in
        let l = low in
        let place : closures_unit (static_count s) + units (library_parts 0 (length library)) ≡ unit_at = omega (arith, u) in
        let spotted = spotted_behind (length s.symbols) (closures_unit (static_count s)) (library_parts 0 (length library)) objects (no_objects 0 (length library)) in
        objects_there parts_at_start unit_at s.literals all_bytes place_of
        (subst (λ u. AreSpotted parts_at_start u objects) place spotted) range known (let l = low in omega (arith, l)) (omega (arith, e, l))
        (subst (λ ws. At (16 * unit_at) (map Fixed ws)) (sym (placed_objects unit_at s.literals)) objects_from)

    pub literals_there : (k : ℕ) (v : Value) → slice_get (literal_values s.literals 0) k ≡ Some v
        → IsWord parts_at_start v (word_in all_bytes (literal_address k))
    literals_there k v e =
        let is = objects_are.value k v e in
        let w = value_word (parts_at unit_at objects) v in
        let at : slice_get value_words k ≡ Some (Fixed w) =
        slice_get-map Fixed (placed_values s.literals unit_at) k
        ∙ ap (option_map Fixed) (ap (λ ws. slice_get ws k) (sym (placed_literals unit_at s.literals))
        ∙ slice_get-map (value_word (parts_at unit_at objects)) (literal_values s.literals 0) k
        ∙ ap (option_map (value_word (parts_at unit_at objects))) e) in
        subst (IsWord parts_at_start v) (sym (word_there place_of all_bytes literals_address value_words
        (front_words place_of all_bytes literals_address value_words from_globals values_at) k (Fixed w) at (fits parts_at_start v w is))) is

    pub contents_there : HeapAt (λ l. place_of (body_label l)) parts_at_start [] (library_procedures library) objects all_bytes
    contents_there = record {
      cell = λ n c e. absurd (let bad : None ≡ Some c = e in cc);
      procedure = λ k p e. at k p (library_there library k p e);
      object = objects_are.object;
      kinds = objects_are.kinds;
    }
      where
        at : (k : ℕ) (p : Procedure) → IsLibrary library k p
            → RecordAt (λ l. place_of (body_label l)) parts_at_start all_bytes k p
        at k p h =
            let t = small (body_label h.label) in
            let few = h.few in
            let place : 16 * (parts_at_start.first + k) ≡ closures_at + 8 * (2 * k) = omega arith in
            let word = ap (word_in all_bytes) place ∙ word_there place_of all_bytes closures_at (closure_words library)
            (front_words place_of all_bytes closures_at (closure_words library) object_list closures_from) (2 * k)
            (Address (body_label h.label)) h.word (omega (arith, t)) in
            subst (RecordAt (λ l. place_of (body_label l)) parts_at_start all_bytes k) (sym h.is)
            (record {
              at = record { unit = parts_at_start.first + k; more = 0 };
              there = library_at k few;
              room = omega arith;
              code = word;
              field = λ j v e. absurd (let bad : None ≡ Some v = e in cc);
            })

  pub new_there : AreNew parts_at_start 0 (length (library_procedures library))
  new_there = record {
    cell = λ n le. no_cell (object_parts 0 objects) parts_at_start.first 0 (length library) n (object_no_cell 0 objects n);
    procedure = λ n le. let c = procedures_count library in no_other (object_parts 0 objects) parts_at_start.first 0 (length library) n
        (object_no_procedure 0 objects n) (omega (arith, le, c));
  }
