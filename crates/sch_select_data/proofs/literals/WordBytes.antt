-- The words and the texts that stand in bytes of data.
use Rattle.std.proofs.Common.{◌≡◌, ℕ, zero, suc, ◌+◌, ◌-◌, ◌*◌, ◌^◌, ◌<◌, ◌≤◌, true, List, [], ◌∷◌, ◌++◌, length, map, take, drop, get_or, Some, refl, sym, ap, ◌∙◌, subst, arith, ⊎_elim, append_assoc, length-append, length-drop, None}
use Rattle.std.proofs.lemmas.Option.{same_Some}
use Rattle.std.specs.Prelude.{slice_get, slice_index}
use Rattle.std.specs.Int.{w64, to_le_bytes, from_le_bytes}
use Rattle.std.specs.List.{flat_map}
use Rattle.std.proofs.lemmas.Bool.{cases_lt, ltb-true, and_parts}
use Rattle.std.proofs.lemmas.Grind.{flat_map-append}
use Rattle.std.proofs.lemmas.List.{drop_at, take-append-drop, take-append-le, get_or-take, get_or_past, length-take-le, take-take}
use Rattle.std.proofs.lemmas.List.Folds.{flat_map-map}
use Rattle.std.proofs.lemmas.Nat.{le_bytes_8, from_le_bytes-to_le_bytes_8}
use Rattle.std.proofs.Math.Seq.{take-append_seam, take-append-add}
use Rattle.sch_word.specs.values.Values.{is_byte, are_bytes}
use Rattle.sch_word.specs.runs.ProgramLayout.{data_address}
use Rattle.sch_asm.specs.declared.assembly.Word.{Word}
use Rattle.sch_asm.specs.declared.assembly.Word.TheVariants.{Fixed}
use Rattle.sch_asm.specs.Codes.{bytes_of}
use Rattle.sch_asm.specs.Data.{word_in, PieceAt}
use Rattle.sch_asm.proofs.Words.{eight_count, data_length}
use Rattle.sch_asm.proofs.Pieces.{piece_later}
use Rattle.sch_select_data.specs.ObjectWords.{text_words}

-- the bytes of words, the lowest byte of each first
abbrev pub word_bytes : List ℕ → List ℕ
word_bytes ws = flat_map (to_le_bytes w64) ws

pub word_bytes_length : (ws : List ℕ) → length (word_bytes ws) ≡ 8 * length ws
word_bytes_length [] = refl
word_bytes_length (w ∷ ws) = let h = word_bytes_length ws in omega (arith, h)

-- ---- words

first_word : (bytes : List ℕ) (a w : ℕ) (ws : List ℕ) → PieceAt bytes a (word_bytes (w ∷ ws)) → w < 2 ^ 64 → word_in bytes a ≡ w
first_word bytes a w ws at fits =
    ap (from_le_bytes w64) at.is ∙ eight_count (word_bytes (w ∷ ws) ++ at.rest) (to_le_bytes w64 w) refl ∙ from_le_bytes-to_le_bytes_8 w fits

-- the piece behind its first word
pub behind_first : (bytes : List ℕ) (a w : ℕ) (ws : List ℕ) → PieceAt bytes a (word_bytes (w ∷ ws)) → PieceAt bytes (a + 8) (word_bytes ws)
behind_first bytes a w ws at = piece_later bytes a (word_bytes (w ∷ ws)) 8 (omega arith) at

pub word_there : (bytes : List ℕ) (a : ℕ) (ws : List ℕ) → PieceAt bytes a (word_bytes ws) → (k w : ℕ) → slice_get ws k ≡ Some w → w < 2 ^ 64 → word_in bytes (a + 8 * k) ≡ w
word_there bytes a [] at k w e fits = absurd (let bad : None ≡ Some w = e in cc)
word_there bytes a (v ∷ ws) at zero w e fits =
    let same : v ≡ w = same_Some v w e in
    let z : a + 8 * 0 ≡ a = omega arith in
    ap (word_in bytes) z ∙ first_word bytes a v ws at (subst (λ w. w < 2 ^ 64) (sym same) fits) ∙ same
word_there bytes a (v ∷ ws) at (suc k) w e fits =
    let z : a + 8 * suc k ≡ a + 8 + 8 * k = omega arith in
    ap (word_in bytes) z ∙ word_there bytes (a + 8) ws (behind_first bytes a v ws at) k w e fits

-- ---- words of data that are resolved

-- the bytes of words
pub word_data : (place : ℕ → ℕ) (ws : List ℕ) → flat_map (bytes_of place) (map Fixed ws) ≡ word_bytes ws
word_data place ws = flat_map-map (bytes_of place) Fixed ws

-- words that stand among others lie behind those before them
pub words_inside : (place : ℕ → ℕ) (front words behind : List Word) (rest bytes : List ℕ) (a : ℕ)
    → bytes ≡ flat_map (bytes_of place) (front ++ (words ++ behind)) ++ rest → a ≡ data_address + 8 * length front → PieceAt bytes a (flat_map (bytes_of place) words)
words_inside place front words behind rest bytes a e at =
    let f = flat_map (bytes_of place) front in
    let w = flat_map (bytes_of place) words in
    let b = flat_map (bytes_of place) behind in
    let n = data_length place front in
    let parts : bytes ≡ f ++ (w ++ (b ++ rest)) =
    e ∙ ap (λ l. l ++ rest) (flat_map-append (bytes_of place) front (words ++ behind) ∙ ap (λ l. f ++ l) (flat_map-append (bytes_of place) words behind))
    ∙ append_assoc f (w ++ b) rest ∙ ap (λ l. f ++ l) (append_assoc w b rest) in
    record {
      rest = b ++ rest;
      is = ap (drop (a - data_address)) parts ∙ drop_at f (w ++ (b ++ rest)) (a - data_address) (omega (arith, n, at));
      low = omega (arith, at);
      high = let s = ap length parts in omega (arith, s, n, at, length-append f (w ++ (b ++ rest)), length-append w (b ++ rest));
    }

-- ---- texts

-- eight bytes of a text, zeros behind its last
eight_of : List ℕ → List ℕ
eight_of bytes = take 8 (bytes ++ (0 ∷ 0 ∷ 0 ∷ 0 ∷ 0 ∷ 0 ∷ 0 ∷ 0 ∷ []))

bytes_below : (xs : List ℕ) → are_bytes xs ≡ true → (i : ℕ) → get_or xs i 0 < 256
bytes_below [] h i = omega arith
bytes_below (x ∷ xs) h zero = ltb-true x 256 (and_parts (is_byte x) (are_bytes xs) h).0
bytes_below (x ∷ xs) h (suc i) = bytes_below xs (and_parts (is_byte x) (are_bytes xs) h).1 i

pub bytes_behind : (k : ℕ) (xs : List ℕ) → are_bytes xs ≡ true → are_bytes (drop k xs) ≡ true
bytes_behind zero xs h = h
bytes_behind (suc k) [] h = refl
bytes_behind (suc k) (x ∷ xs) h = bytes_behind k xs (and_parts (is_byte x) (are_bytes xs) h).1

zero_at : (i : ℕ) → slice_index (0 ∷ 0 ∷ 0 ∷ 0 ∷ 0 ∷ 0 ∷ 0 ∷ 0 ∷ []) i ≡ 0
zero_at zero = refl
zero_at (suc zero) = refl
zero_at (suc (suc zero)) = refl
zero_at (suc (suc (suc zero))) = refl
zero_at (suc (suc (suc (suc zero)))) = refl
zero_at (suc (suc (suc (suc (suc zero))))) = refl
zero_at (suc (suc (suc (suc (suc (suc zero)))))) = refl
zero_at (suc (suc (suc (suc (suc (suc (suc zero))))))) = refl
zero_at (suc (suc (suc (suc (suc (suc (suc (suc i)))))))) = refl

with_zeros : (xs : List ℕ) (i : ℕ) → slice_index (xs ++ (0 ∷ 0 ∷ 0 ∷ 0 ∷ 0 ∷ 0 ∷ 0 ∷ 0 ∷ [])) i ≡ slice_index xs i
with_zeros [] i = zero_at i
with_zeros (x ∷ xs) zero = refl
with_zeros (x ∷ xs) (suc i) = with_zeros xs i

eight_at : (xs : List ℕ) (i : ℕ) → i < 8 → slice_index xs i ≡ slice_index (eight_of xs) i
unfolding eight_of
eight_at xs i lt = sym (with_zeros xs i) ∙ sym (get_or-take 8 (xs ++ (0 ∷ 0 ∷ 0 ∷ 0 ∷ 0 ∷ 0 ∷ 0 ∷ 0 ∷ [])) i 0 lt)

eight_same : (xs ys : List ℕ) → ((i : ℕ) → i < 8 → slice_index xs i ≡ slice_index ys i) → from_le_bytes w64 xs ≡ from_le_bytes w64 ys
eight_same xs ys at = rw (at 0 (omega arith), at 1 (omega arith), at 2 (omega arith), at 3 (omega arith), at 4 (omega arith), at 5 (omega arith), at 6 (omega arith), at 7 (omega arith)) refl

eight_length : (xs : List ℕ) → length (eight_of xs) ≡ 8
unfolding eight_of
eight_length xs =
    length-take-le 8 (xs ++ (0 ∷ 0 ∷ 0 ∷ 0 ∷ 0 ∷ 0 ∷ 0 ∷ 0 ∷ [])) (omega (arith, length-append xs (0 ∷ 0 ∷ 0 ∷ 0 ∷ 0 ∷ 0 ∷ 0 ∷ 0 ∷ [])))

below_here : (xs : List ℕ) (i : ℕ) → are_bytes xs ≡ true → (get_or (eight_of xs) i 0 < 256)
below_here xs i h =
    ⊎_elim
    (λ lt. let e = eight_at xs i lt in let b = bytes_below xs h i in omega (arith, e, b))
    (λ le. let z = get_or_past (eight_of xs) i 0 (omega (arith, eight_length xs, le)) in omega (arith, z))
    (cases_lt i 8)

first_eight : (xs : List ℕ) → are_bytes xs ≡ true → to_le_bytes w64 (from_le_bytes w64 xs) ≡ eight_of xs
first_eight xs h =
    le_bytes_8 (eight_of xs) (from_le_bytes w64 xs) (eight_length xs) (λ i. below_here xs i h) (eight_same xs (eight_of xs) (eight_at xs))

short_text : (xs ys : List ℕ) → length xs ≤ 8 → take (length xs) (eight_of xs ++ ys) ≡ xs
unfolding eight_of
short_text xs ys le =
    let all = xs ++ (0 ∷ 0 ∷ 0 ∷ 0 ∷ 0 ∷ 0 ∷ 0 ∷ 0 ∷ []) in
    take-append-le (length xs) (take 8 all) ys (omega (arith, eight_length xs, le))
    ∙ take-take (length xs) 8 all le ∙ take-append_seam xs (0 ∷ 0 ∷ 0 ∷ 0 ∷ 0 ∷ 0 ∷ 0 ∷ 0 ∷ [])

long_text : (xs ys : List ℕ) → 8 ≤ length xs → take (length (drop 8 xs)) ys ≡ drop 8 xs → take (length xs) (eight_of xs ++ ys) ≡ xs
unfolding eight_of
long_text xs ys le h =
    let e : take 8 (xs ++ (0 ∷ 0 ∷ 0 ∷ 0 ∷ 0 ∷ 0 ∷ 0 ∷ 0 ∷ [])) ≡ take 8 xs = take-append-le 8 xs (0 ∷ 0 ∷ 0 ∷ 0 ∷ 0 ∷ 0 ∷ 0 ∷ 0 ∷ []) le in
    let n = length-take-le 8 xs le in
    let m = length-drop 8 xs in
    let whole : length xs ≡ length (take 8 xs) + length (drop 8 xs) = omega (arith, n, m, le) in
    ap (λ l. take (length xs) (l ++ ys)) e
    ∙ ap (λ k. take k (take 8 xs ++ ys)) whole ∙ take-append-add (take 8 xs) ys (length (drop 8 xs))
    ∙ ap (λ l. take 8 xs ++ l) h ∙ take-append-drop 8 xs

-- the bytes of the words of a text begin with it
pub text_there : (n : ℕ) (xs rest : List ℕ) → length xs ≤ 8 * n → are_bytes xs ≡ true → take (length xs) (word_bytes (text_words n xs) ++ rest) ≡ xs
text_there zero [] rest le h = refl
text_there zero (x ∷ xs) rest le h = absurd (omega (arith, le))
text_there (suc n) xs rest le h =
    let more = word_bytes (text_words n (drop 8 xs)) in
    ap (λ l. take (length xs) (l ++ (more ++ rest))) (first_eight xs h)
    ∙ ⊎_elim
    (λ lt. short_text xs (more ++ rest) (omega (arith, lt)))
    (λ ge. long_text xs (more ++ rest) ge (text_there n (drop 8 xs) rest (omega (arith, length-drop 8 xs, le)) (bytes_behind 8 xs h)))
    (cases_lt (length xs) 8)
