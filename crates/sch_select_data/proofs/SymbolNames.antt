-- The names of symbols in their words.
use Rattle.std.proofs.Common.{◌≡◌, ℕ, zero, suc, ◌+◌, ◌-◌, ◌*◌, ◌/◌, ◌^◌, ◌<◌, ◌≤◌, List, [], ◌∷◌, ◌++◌, length, take, drop, true, Some, None, refl, sym, ap, ◌∙◌, subst, arith, append_assoc, length-append}
use Rattle.std.specs.Prelude.{slice_get}
use Rattle.std.specs.Int.{w64, to_le_bytes, from_le_bytes}
use Rattle.std.specs.List.{list_all}
use Rattle.std.proofs.lemmas.Bool.{and_parts}
use Rattle.std.proofs.lemmas.Grind.{flat_map-append}
use Rattle.std.proofs.lemmas.Nat.{from_le_bytes-to_le_bytes_8}
use Rattle.std.proofs.lemmas.Option.{slice_get_within}
use Rattle.std.proofs.Math.Seq.{drop-append_seam}
use Rattle.sch_word.specs.values.Values.{are_bytes}
use Rattle.sch_word.proofs.facts.Lists.{get_front, get_behind}
use Rattle.sch_asm.proofs.Words.{eight_count}
use Rattle.sch_select_data.specs.ObjectWords.{text_words}
use Rattle.sch_select_data.proofs.literals.WordBytes.{word_bytes, word_bytes_length, text_there}
use Rattle.sch_select_data.proofs.literals.Sizes.{text_words_length}
use Rattle.sch_select_memory.specs.Names.{IsNamed, AreNamed}
use Rattle.sch_select_data.specs.NameWords.{name_words, each_name, name_count, names_count, name_addresses, symbol_words}
use Rattle.sch_select_data.specs.NameWords.{symbols_count}

-- ---- words and their bytes

word_drop : (ws : List ℕ) (k w : ℕ) → slice_get ws k ≡ Some w → w < 2 ^ 64
    → from_le_bytes w64 (drop (8 * k) (word_bytes ws)) ≡ w
word_drop [] k w e lt = absurd (let bad : None ≡ Some w = e in cc)
word_drop (v ∷ ws) zero w e lt =
    let f : Some v ≡ Some w = e in
    let same : v ≡ w = cc in
    eight_count (word_bytes (v ∷ ws)) (to_le_bytes w64 v) refl
    ∙ ap (λ w. from_le_bytes w64 (to_le_bytes w64 w)) same ∙ from_le_bytes-to_le_bytes_8 w lt
word_drop (v ∷ ws) (suc k) w e lt =
    let at : 8 * suc k ≡ suc (suc (suc (suc (suc (suc (suc (suc (8 * k)))))))) = omega arith in
    ap (λ n. from_le_bytes w64 (drop n (word_bytes (v ∷ ws)))) at ∙ word_drop ws k w e lt

bytes_behind : (xs ys : List ℕ) (k : ℕ) → k ≡ 8 * length xs → drop k (word_bytes (xs ++ ys)) ≡ word_bytes ys
bytes_behind xs ys k e =
    let n = word_bytes_length xs in
    let size : k ≡ length (word_bytes xs) = omega (arith, e, n) in
    ap (drop k) (flat_map-append (to_le_bytes w64) xs ys) ∙ ap (λ k. drop k (word_bytes xs ++ word_bytes ys)) size
    ∙ drop-append_seam (word_bytes xs) (word_bytes ys)

-- ---- where a name is

name_words_count : (name : List ℕ) → length (name_words name) ≡ name_count name
name_words_count name = let h = text_words_length ((length name + 7) / 8) name in omega (arith, h)

pub each_count : (names : List (List ℕ)) → length (each_name names) ≡ names_count names
each_count [] = refl
each_count (name ∷ names) =
    let a = length-append (name_words name) (each_name names) in
    let n = name_words_count name in let m = each_count names in omega (arith, a, n, m)

pub addresses_count : (at : ℕ) (names : List (List ℕ)) → length (name_addresses at names) ≡ length names
addresses_count at [] = refl
addresses_count at (name ∷ names) = ap suc (addresses_count (at + 8 * name_count name) names)

pub symbol_words_count : (first : ℕ) (symbols : List (List ℕ)) → length (symbol_words first symbols) ≡ symbols_count symbols
symbol_words_count first symbols =
    let a = length-append (name_addresses (first + 8 * length symbols) symbols) (each_name symbols) in
    let n = addresses_count (first + 8 * length symbols) symbols in let m = each_count symbols in omega (arith, a, n, m)

-- the words of the names in front of one, and of those behind it
record IsAmong (at : ℕ) (names : List (List ℕ)) (n : ℕ) (name : List ℕ) : Type 0 where
  front : List ℕ
  back : List ℕ
  are : each_name names ≡ front ++ (name_words name ++ back)
  pointer : slice_get (name_addresses at names) n ≡ Some (at + 8 * length front)
  within : length front + name_count name ≤ names_count names

is_among : (at : ℕ) (names : List (List ℕ)) (n : ℕ) (name : List ℕ) → slice_get names n ≡ Some name → IsAmong at names n name
is_among at [] n name e = absurd (let bad : None ≡ Some name = e in cc)
is_among at (x ∷ names) zero name e =
    let f : Some x ≡ Some name = e in
    let same : x ≡ name = cc in
    let z : at ≡ at + 8 * 0 = omega arith in
    subst (IsAmong at (x ∷ names) zero) same
    (record { front = []; back = each_name names; are = refl; pointer = ap Some z; within = omega arith })
is_among at (x ∷ names) (suc n) name e =
    let h = is_among (at + 8 * name_count x) names n name e in
    let a = length-append (name_words x) h.front in let c = name_words_count x in let w = h.within in
    let z : at + 8 * name_count x + 8 * length h.front ≡ at + 8 * length (name_words x ++ h.front) = omega (arith, a, c) in
    record {
      front = name_words x ++ h.front;
      back = h.back;
      are = ap (λ l. name_words x ++ l) h.are ∙ sym (append_assoc (name_words x) h.front (name_words name ++ h.back));
      pointer = h.pointer ∙ ap Some z;
      within = omega (arith, a, c, w);
    }

name_bytes : (symbols : List (List ℕ)) (n : ℕ) (name : List ℕ) → list_all are_bytes symbols ≡ true
    → slice_get symbols n ≡ Some name → are_bytes name ≡ true
name_bytes [] n name h e = absurd (let bad : None ≡ Some name = e in cc)
name_bytes (x ∷ symbols) zero name h e =
    let f : Some x ≡ Some name = e in
    let same : x ≡ name = cc in
    subst (λ x. are_bytes x ≡ true) same (and_parts (are_bytes x) (list_all are_bytes symbols) h).0
name_bytes (x ∷ symbols) (suc n) name h e = name_bytes symbols n name (and_parts (are_bytes x) (list_all are_bytes symbols) h).1 e

-- ---- all of them

module _ (first : ℕ) (symbols : List (List ℕ)) (bytes : list_all are_bytes symbols ≡ true)
    (low : first + 8 * symbols_count symbols < 2 ^ 31) where
  abbrev names : List ℕ
  names = word_bytes (symbol_words first symbols)

  addresses : List ℕ
  addresses = name_addresses (first + 8 * length symbols) symbols

  named_by : (n : ℕ) (name : List ℕ) → slice_get symbols n ≡ Some name
      → IsAmong (first + 8 * length symbols) symbols n name → IsNamed names first n name
  unfolding addresses
  named_by n name e h =
      let many : length addresses ≡ length symbols = addresses_count (first + 8 * length symbols) symbols in
      let size = word_bytes_length (symbol_words first symbols) in
      let total = symbol_words_count first symbols in
      let lt = slice_get_within symbols n name e in
      let at = first + 8 * length symbols + 8 * length h.front in
      let within = h.within in
      let words : symbol_words first symbols ≡ addresses ++ (h.front ++ (name_words name ++ h.back)) = ap
      (λ l. addresses ++ l) h.are in
      let here : first + 8 * n - first ≡ 8 * n = omega arith in
      let there : at - first ≡ 8 * (length addresses + length h.front) = omega (arith, many) in
      let pre = addresses ++ (h.front ++ (8 * length name ∷ [])) in
      let tail = text_words ((length name + 7) / 8) name ++ h.back in
      let l1 = length-append addresses (h.front ++ (8 * length name ∷ [])) in
      let l2 = length-append h.front (8 * length name ∷ []) in
      let behind : at + 8 - first ≡ 8 * length pre = omega (arith, many, l1, l2) in
      let cut : symbol_words first symbols ≡ pre ++ tail = words ∙ sym (append_assoc addresses (h.front ++ (8 * length name ∷ [])) tail
      ∙ ap (λ l. addresses ++ l) (append_assoc h.front (8 * length name ∷ []) tail)) in
      record {
        at = at;
        pointer = ap (λ k. from_le_bytes w64 (drop k names)) here
            ∙ word_drop (symbol_words first symbols) n at
            (get_front addresses (each_name symbols) n (omega (arith, many, lt)) ∙ h.pointer) (omega (arith, low, within));
        low = omega arith;
        high = omega (arith, size, total, within);
        entry_high = omega (arith, size, total, lt);
        size = ap (λ k. from_le_bytes w64 (drop k names)) there
            ∙ word_drop (symbol_words first symbols) (length addresses + length h.front) (8 * length name)
            (ap (λ ws. slice_get ws (length addresses + length h.front)) words
            ∙ get_behind addresses (h.front ++ (name_words name ++ h.back)) (length h.front)
            ∙ name_first h.front (name_words name ++ h.back) (8 * length name) refl)
            (omega (arith, low, within));
        text = ap (take (length name)) (ap (λ ws. drop (at + 8 - first) (word_bytes ws)) cut
            ∙ bytes_behind pre tail (at + 8 - first) behind
            ∙ flat_map-append (to_le_bytes w64) (text_words ((length name + 7) / 8) name) h.back)
            ∙ text_there ((length name + 7) / 8) name (word_bytes h.back) (omega arith) (name_bytes symbols n name bytes e);
        are_bytes = name_bytes symbols n name bytes e;
      }
    where
      name_first : (xs ys : List ℕ) (w : ℕ) → slice_get ys 0 ≡ Some w → slice_get (xs ++ ys) (length xs) ≡ Some w
      name_first [] ys w e = e
      name_first (x ∷ xs) ys w e = name_first xs ys w e

  pub are_named : AreNamed symbols names first
  are_named = record { each = λ n name e. named_by n name e (is_among (first + 8 * length symbols) symbols n name e) }
