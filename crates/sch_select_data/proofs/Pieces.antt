-- Words of data one behind the other, as pieces of the bytes.
use Rattle.std.proofs.Common.{◌≡◌, ℕ, zero, suc, ◌+◌, ◌-◌, ◌*◌, ◌^◌, ◌<◌, List, [], ◌∷◌, ◌++◌, length, map, take, drop, Some, None, refl, sym, ap, ◌∙◌, subst, arith, append_assoc, length-append}
use Rattle.std.specs.Prelude.{slice_get}
use Rattle.std.specs.Int.{w64, to_le_bytes, from_le_bytes}
use Rattle.std.specs.List.{flat_map}
use Rattle.std.proofs.lemmas.Grind.{flat_map-append}
use Rattle.std.proofs.lemmas.List.{drop-drop}
use Rattle.std.proofs.lemmas.Nat.{from_le_bytes-to_le_bytes_8}
use Rattle.std.proofs.Math.Seq.{drop-append_seam, take-append_seam}
use Rattle.sch_word.specs.runs.ProgramLayout.{data_address}
use Rattle.sch_asm.specs.declared.assembly.Word.{Word}
use Rattle.sch_asm.specs.declared.assembly.Word.TheVariants.{Fixed}
use Rattle.sch_asm.specs.Codes.{bytes_of, value_of}
use Rattle.sch_asm.specs.Data.{word_in, PieceAt}
use Rattle.sch_asm.proofs.Pieces.{piece_later}
use Rattle.sch_asm.proofs.Words.{eight_count}
use Rattle.sch_select_data.proofs.literals.WordBytes.{word_bytes}

module _ (place_of : ℕ → ℕ) where
  abbrev pub spelled : List Word → List ℕ
  spelled ws = flat_map (bytes_of place_of) ws

  pub spelled_count : (ws : List Word) → length (spelled ws) ≡ 8 * length ws
  spelled_count [] = refl
  spelled_count (w ∷ ws) = let e = spelled_count ws in let a = length-append (bytes_of place_of w) (spelled ws) in let
      b : length (bytes_of place_of w) ≡ 8 = refl in omega (arith, e, a, b)

  pub spelled_fixed : (ws : List ℕ) → spelled (map Fixed ws) ≡ word_bytes ws
  spelled_fixed [] = refl
  spelled_fixed (w ∷ ws) = ap (λ l. to_le_bytes w64 w ++ l) (spelled_fixed ws)

  -- the word with an index
  spelled_word : (ws : List Word) (k : ℕ) (w : Word) (rest : List ℕ) → slice_get ws k ≡ Some w
      → value_of place_of w < 2 ^ 64 → from_le_bytes w64 (drop (8 * k) (spelled ws ++ rest)) ≡ value_of place_of w
  spelled_word [] k w rest e lt = absurd (let bad : None ≡ Some w = e in cc)
  spelled_word (v ∷ ws) zero w rest e lt =
      let f : Some v ≡ Some w = e in
      let same : v ≡ w = cc in
      eight_count (spelled (v ∷ ws) ++ rest) (bytes_of place_of v) refl
      ∙ ap (λ w. from_le_bytes w64 (bytes_of place_of w)) same
      ∙ from_le_bytes-to_le_bytes_8 (value_of place_of w) lt
  spelled_word (v ∷ ws) (suc k) w rest e lt =
      let at : 8 * suc k ≡ suc (suc (suc (suc (suc (suc (suc (suc (8 * k)))))))) = omega arith in
      ap (λ n. from_le_bytes w64 (drop n (spelled (v ∷ ws) ++ rest))) at ∙ spelled_word ws k w rest e lt

  -- ---- words at an address

  abbrev pub WordsAt : (bytes : List ℕ) (a : ℕ) → List Word → Type 0
  WordsAt bytes a ws = PieceAt bytes a (spelled ws)

  pub whole_words : (ws : List Word) (rest : List ℕ) → WordsAt (spelled ws ++ rest) data_address ws
  whole_words ws rest = record {
    rest = rest;
    is = refl;
    low = omega arith;
    high = (let e = length-append (spelled ws) rest in omega (arith, e));
  }

  pub word_there : (bytes : List ℕ) (a : ℕ) (ws : List Word) → WordsAt bytes a ws → (k : ℕ) (w : Word)
      → slice_get ws k ≡ Some w → value_of place_of w < 2 ^ 64 → word_in bytes (a + 8 * k) ≡ value_of place_of w
  word_there bytes a ws p k w e lt =
      let low = p.low in
      let s : a + 8 * k - data_address ≡ (a - data_address) + 8 * k = omega arith in
      ap (λ n. from_le_bytes w64 (drop n bytes)) s
      ∙ ap (from_le_bytes w64) (sym (drop-drop (8 * k) (a - data_address) bytes) ∙ ap (drop (8 * k)) p.is)
      ∙ spelled_word ws k w p.rest e lt

  -- some words, and those behind them
  pub front_words : (bytes : List ℕ) (a : ℕ) (xs ys : List Word) → WordsAt bytes a (xs ++ ys) → WordsAt bytes a xs
  front_words bytes a xs ys p =
      let joined : spelled (xs ++ ys) ≡ spelled xs ++ spelled ys = flat_map-append (bytes_of place_of) xs ys in
      let n = ap length joined in let m = length-append (spelled xs) (spelled ys) in let high = p.high in
      record {
        rest = spelled ys ++ p.rest;
        is = p.is ∙ ap (λ l. l ++ p.rest) joined ∙ append_assoc (spelled xs) (spelled ys) p.rest;
        low = p.low;
        high = omega (arith, n, m, high);
      }

  pub later_words : (bytes : List ℕ) (a : ℕ) (xs ys : List Word) → WordsAt bytes a (xs ++ ys)
      → (b : ℕ) → b ≡ a + 8 * length xs → WordsAt bytes b ys
  later_words bytes a xs ys p b at =
      let joined : spelled (xs ++ ys) ≡ spelled xs ++ spelled ys = flat_map-append (bytes_of place_of) xs ys in
      let n = spelled_count xs in let m = length-append (spelled xs) (spelled ys) in
      let size : b ≡ a + length (spelled xs) = omega (arith, at, n) in
      subst (λ b. PieceAt bytes b (spelled ys)) (sym size)
      (subst (PieceAt bytes (a + length (spelled xs))) (drop-append_seam (spelled xs) (spelled ys))
      (piece_later bytes a (spelled xs ++ spelled ys) (length (spelled xs)) (omega (arith, m))
      (subst (PieceAt bytes a) joined p)))

-- the bytes of a piece
pub taken : (bytes : List ℕ) (a : ℕ) (piece : List ℕ) → PieceAt bytes a piece
    → take (length piece) (drop (a - data_address) bytes) ≡ piece
taken bytes a piece p = ap (take (length piece)) p.is ∙ take-append_seam piece p.rest
