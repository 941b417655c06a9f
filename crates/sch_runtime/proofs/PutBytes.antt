-- Bytes that are put into a list of bytes: its size, what lies before, at and behind them, and how elements
-- that are put one behind the other make one piece.
use Rattle.std.proofs.Common.{◌≡◌, ℕ, zero, suc, ◌+◌, ◌-◌, ◌*◌, ◌^◌, ◌<◌, ◌≤◌, List, [], ◌∷◌, ◌++◌, length, take, drop, replicate, length-append, append_assoc, refl, sym, ap, ◌∙◌, arith}
use Rattle.std.specs.Int.{w64, to_le_bytes, from_le_bytes}
pub use Rattle.std.specs.List.{repeat as repeated}
use Rattle.std.proofs.lemmas.List.{drop-drop, length-take-le, take-append-drop}
use Rattle.std.proofs.lemmas.Nat.{from_le_bytes-to_le_bytes_8}
use Rattle.std.proofs.Math.Seq.{take-append_seam, drop-append_seam, take-append-add}
use Rattle.sch_word.specs.runs.ProgramLayout.{data_address}
use Rattle.sch_insn.specs.Machine.{put_bytes}
use Rattle.sch_asm.specs.Effects.{AreWords, AreBytes}
use Rattle.sch_asm.proofs.Words.{eight_count}

-- ---- one piece

pub put_none : (bs : List ℕ) (k : ℕ) → put_bytes bs k [] ≡ bs
put_none bs k = let e : k + 0 ≡ k = omega arith in ap (λ n. take k bs ++ drop n bs) e ∙ take-append-drop k bs

pub before_put : (bs : List ℕ) (k : ℕ) (xs : List ℕ) → k ≤ length bs → take k (put_bytes bs k xs) ≡ take k bs
before_put bs k xs le =
    let rest = xs ++ drop (k + length xs) bs in
    ap (λ n. take n (take k bs ++ rest)) (sym (length-take-le k bs le)) ∙ take-append_seam (take k bs) rest

pub from_put : (bs : List ℕ) (k : ℕ) (xs : List ℕ) → k ≤ length bs → drop k (put_bytes bs k xs) ≡ xs ++ drop (k + length xs) bs
from_put bs k xs le =
    let rest = xs ++ drop (k + length xs) bs in
    ap (λ n. drop n (take k bs ++ rest)) (sym (length-take-le k bs le)) ∙ drop-append_seam (take k bs) rest

pub behind_put : (bs : List ℕ) (k : ℕ) (xs : List ℕ) → k ≤ length bs → drop (k + length xs) (put_bytes bs k xs) ≡ drop (k + length xs) bs
behind_put bs k xs le = sym (drop-drop (length xs) k (put_bytes bs k xs)) ∙ ap (drop (length xs)) (from_put bs k xs le) ∙ drop-append_seam xs (drop (k + length xs) bs)

-- a second piece right behind the first
pub put_after : (bs : List ℕ) (k : ℕ) (xs ys : List ℕ) → k ≤ length bs → put_bytes (put_bytes bs k xs) (k + length xs) ys ≡ put_bytes bs k (xs ++ ys)
put_after bs k xs ys le =
    let m = length xs in
    let n = length ys in
    let all = put_bytes bs k xs in
    let rest = drop (k + m) bs in
    let front : take (k + m) all ≡ take k bs ++ xs =
    ap (λ j. take (j + m) all) (sym (length-take-le k bs le)) ∙ take-append-add (take k bs) (xs ++ rest) m ∙ ap (λ l. take k bs ++ l) (take-append_seam xs rest) in
    let end : k + m + n ≡ k + length (xs ++ ys) = omega (arith, length-append xs ys) in
    let back : drop (k + m + n) all ≡ drop (k + length (xs ++ ys)) bs = sym (drop-drop n (k + m) all) ∙ ap (drop n) (behind_put bs k xs le) ∙ drop-drop n (k + m) bs ∙ ap (λ j. drop j bs) end in
    let behind = drop (k + length (xs ++ ys)) bs in
    ap (λ l. l ++ (ys ++ drop (k + m + n) all)) front
    ∙ ap (λ l. (take k bs ++ xs) ++ (ys ++ l)) back
    ∙ append_assoc (take k bs) xs (ys ++ behind)
    ∙ ap (λ l. take k bs ++ l) (sym (append_assoc xs ys behind))

-- ---- an element as often as a number says

pub length_words : (n w : ℕ) → length (repeated n (to_le_bytes w64 w)) ≡ 8 * n
length_words zero w = refl
length_words (suc n) w = let e = length_words n w in omega (arith, e)

pub repeated_byte : (n b : ℕ) → repeated n (b ∷ []) ≡ replicate n b
repeated_byte zero b = refl
repeated_byte (suc n) b = ap (λ l. b ∷ l) (repeated_byte n b)

pub length_bytes : (n b : ℕ) → length (repeated n (b ∷ [])) ≡ n
length_bytes zero b = refl
length_bytes (suc n) b = let e = length_bytes n b in omega (arith, e)

-- the words among them
word_of : (n j w : ℕ) (rest : List ℕ) → j < n → w < 2 ^ 64 → from_le_bytes w64 (drop (8 * j) (repeated n (to_le_bytes w64 w) ++ rest)) ≡ w
word_of zero j w rest lt fits = absurd (omega (arith, lt))
word_of (suc n) zero w rest lt fits = eight_count (repeated (suc n) (to_le_bytes w64 w) ++ rest) (to_le_bytes w64 w) refl ∙ from_le_bytes-to_le_bytes_8 w fits
word_of (suc n) (suc j) w rest lt fits =
    let all = repeated (suc n) (to_le_bytes w64 w) ++ rest in
    let e : 8 * suc j ≡ 8 + 8 * j = omega arith in
    ap (λ m. from_le_bytes w64 (drop m all)) e ∙ ap (from_le_bytes w64) (sym (drop-drop (8 * j) 8 all)) ∙ word_of n j w rest (omega (arith, lt)) fits

pub words_put : (bs : List ℕ) (a n w : ℕ) → data_address ≤ a → a ≤ data_address + length bs → w < 2 ^ 64 → AreWords a n w (put_bytes bs (a - data_address) (repeated n (to_le_bytes w64 w)))
words_put bs a n w low high fits j lt =
    let k = a - data_address in
    let xs = repeated n (to_le_bytes w64 w) in
    let all = put_bytes bs k xs in
    let e : a + 8 * j - data_address ≡ k + 8 * j = omega (arith, low) in
    ap (λ m. from_le_bytes w64 (drop m all)) e
    ∙ ap (from_le_bytes w64) (sym (drop-drop (8 * j) k all) ∙ ap (drop (8 * j)) (from_put bs k xs (omega (arith, low, high))))
    ∙ word_of n j w (drop (k + length xs) bs) lt fits

pub bytes_put : (bs : List ℕ) (a n b : ℕ) → data_address ≤ a → a ≤ data_address + length bs → AreBytes a n b (put_bytes bs (a - data_address) (repeated n (b ∷ [])))
bytes_put bs a n b low high =
    let k = a - data_address in
    let xs = repeated n (b ∷ []) in
    let rest = drop (k + length xs) bs in
    ap (take n) (from_put bs k xs (omega (arith, low, high)))
    ∙ ap (λ m. take m (xs ++ rest)) (sym (length_bytes n b))
    ∙ take-append_seam xs rest
    ∙ repeated_byte n b
