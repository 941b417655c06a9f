-- Indices below a length, and what is read and written at them.
use Rattle.std.proofs.Common.{◌≡◌, ℕ, zero, suc, ◌+◌, ◌*◌, ◌<◌, ◌≤◌, List, [], ◌∷◌, length, take, drop, true, false, Some, None, refl, sym, ap, ◌∙◌, arith, ◌&&◌}
use Rattle.std.specs.Prelude.{ℤ, pos, negsuc, ◌≤ℤ◌, nat_lt, nat_le, nat_abs, slice_get, slice_set, slice_index, replicate}
use Rattle.std.proofs.lemmas.Bool.{and_parts, ltb-true}
use Rattle.std.proofs.lemmas.Bool.Decides.{nat_tests}
use Rattle.std.proofs.lemmas.Int.{ints}
use Rattle.sch_word.specs.values.Values.{is_byte, are_bytes}
use Rattle.sch_word.specs.values.PrimitiveRows.{is_index}
use Rattle.sch_word.specs.values.Options.{first_or_0}
use Rattle.sch_asm.specs.Data.{FixnumWord}
use Rattle.sch_select_memory.proofs.heap.Signs.{low_word, high_word}

-- ---- indices: of numbers without a sign, a negative one is below no length

pub index_tested : (n : ℤ) (x bound : ℕ) → FixnumWord n x → 8 * bound < 9223372036854775808 → nat_lt x (8 * bound) ≡ is_index n bound
index_tested (pos m) x bound h few = let e = low_word m x h in go e
  where
    go : x ≡ 8 * m → nat_lt x (8 * bound) ≡ (nat_le 0 m && nat_lt m bound)
    go e = grind (arith, nat_tests)
index_tested (negsuc m) x bound h few = let e = high_word m x h in let l : negsuc 1152921504606846975 ≤ℤ negsuc m = h.range.low in go (omega (arith, ints, e, l, few))
  where
    go : 8 * bound ≤ x → nat_lt x (8 * bound) ≡ false
    go le = grind (arith, nat_tests)

-- an index, as a number
pub index_word : (n : ℤ) (x bound : ℕ) → FixnumWord n x → is_index n bound ≡ true → (x ≡ 8 * nat_abs n) × (nat_abs n < bound)
index_word (pos m) x bound h e = (low_word m x h, ltb-true m bound (and_parts (nat_le 0 m) (nat_lt m bound) e).1)
index_word (negsuc m) x bound h e = absurd (let bad : false ≡ true = e in cc)

-- ---- elements

pub index_there : (xs : List ℕ) (k : ℕ) → k < length xs → slice_get xs k ≡ Some (slice_index xs k)
index_there [] k lt = absurd (omega (arith, lt))
index_there (x ∷ xs) zero lt = refl
index_there (x ∷ xs) (suc k) lt = index_there xs k (omega (arith, lt))

-- ---- bytes

pub byte_below : (bs : List ℕ) (k : ℕ) → are_bytes bs ≡ true → k < length bs → slice_index bs k < 256
byte_below [] k all lt = absurd (omega (arith, lt))
byte_below (b ∷ bs) zero all lt = ltb-true b 256 (and_parts (is_byte b) (are_bytes bs) all).0
byte_below (b ∷ bs) (suc k) all lt = byte_below bs k (and_parts (is_byte b) (are_bytes bs) all).1 (omega (arith, lt))

pub bytes_set : (bs : List ℕ) (k b : ℕ) → are_bytes bs ≡ true → b < 256 → are_bytes (slice_set bs k b) ≡ true
bytes_set [] k b all lt = refl
bytes_set (c ∷ bs) zero b all lt = let both = and_parts (is_byte c) (are_bytes bs) all in let r = both.1 in let i : nat_lt b 256 ≡ true = grind (arith, nat_tests) in ap (λ t. t && are_bytes bs) i ∙ r
bytes_set (c ∷ bs) (suc k) b all lt = let both = and_parts (is_byte c) (are_bytes bs) all in ap (λ t. t && are_bytes (slice_set bs k b)) both.0 ∙ bytes_set bs k b both.1 lt

pub bytes_same : (n b : ℕ) → b < 256 → are_bytes (replicate n b) ≡ true
bytes_same zero b lt = refl
bytes_same (suc n) b lt = let i : nat_lt b 256 ≡ true = grind (arith, nat_tests) in ap (λ t. t && are_bytes (replicate n b)) i ∙ bytes_same n b lt

-- a byte of some that stand at an offset is the first of what stands behind
pub byte_at_offset : (bytes text : List ℕ) (a k : ℕ) → take (length text) (drop a bytes) ≡ text → k < length text → first_or_0 (drop (a + k) bytes) ≡ slice_index text k
byte_at_offset bytes text a k e lt = by_drop bytes a ∙ in_front (drop a bytes) text k e lt
  where
    head_tail : (xs : List ℕ) (k : ℕ) → drop (suc k) xs ≡ drop k (drop 1 xs)
    head_tail [] zero = refl
    head_tail [] (suc k) = refl
    head_tail (x ∷ xs) k = refl

    by_drop : (bytes : List ℕ) (a : ℕ) → first_or_0 (drop (a + k) bytes) ≡ first_or_0 (drop k (drop a bytes))
    by_drop bytes zero = let z : zero + k ≡ k = omega arith in ap (λ n. first_or_0 (drop n bytes)) z
    by_drop [] (suc a) = ap first_or_0 (nothing (suc a + k)) ∙ ap first_or_0 (sym (nothing k))
      where
        none : List ℕ
        none = []

        nothing : (n : ℕ) → drop n none ≡ none
        nothing zero = refl
        nothing (suc n) = refl
    by_drop (b ∷ bytes) (suc a) = let z : suc a + k ≡ suc (a + k) = omega arith in ap (λ n. first_or_0 (drop n (b ∷ bytes))) z ∙ by_drop bytes a

    in_front : (xs text : List ℕ) (k : ℕ) → take (length text) xs ≡ text → k < length text → first_or_0 (drop k xs) ≡ slice_index text k
    in_front xs [] k e lt = absurd (omega (arith, lt))
    in_front [] (t ∷ text) k e lt = absurd (let bad : [] ≡ t ∷ text = e in cc)
    in_front (x ∷ xs) (t ∷ text) zero e lt = let h : x ∷ take (length text) xs ≡ t ∷ text = e in let s : x ≡ t = cc in s
    in_front (x ∷ xs) (t ∷ text) (suc k) e lt = let h : x ∷ take (length text) xs ≡ t ∷ text = e in let s : take (length text) xs ≡ text = cc in in_front xs text k s (omega (arith, lt))

-- one byte of some that stand at an offset is set
pub text_set : (bytes text : List ℕ) (a k b : ℕ) → take (length text) (drop a bytes) ≡ text → k < length text → take (length text) (drop a (slice_set bytes (a + k) b)) ≡ slice_set text k b
text_set bytes text a k b e lt = ap (take (length text)) (moved bytes a) ∙ in_front (drop a bytes) text k e lt
  where
    moved : (bytes : List ℕ) (a : ℕ) → drop a (slice_set bytes (a + k) b) ≡ slice_set (drop a bytes) k b
    moved bytes zero = let z : zero + k ≡ k = omega arith in ap (λ n. slice_set bytes n b) z
    moved [] (suc a) = refl
    moved (c ∷ bytes) (suc a) = let z : suc a + k ≡ suc (a + k) = omega arith in ap (λ n. drop (suc a) (slice_set (c ∷ bytes) n b)) z ∙ moved bytes a

    in_front : (xs text : List ℕ) (k : ℕ) → take (length text) xs ≡ text → k < length text → take (length text) (slice_set xs k b) ≡ slice_set text k b
    in_front xs [] k e lt = absurd (omega (arith, lt))
    in_front [] (t ∷ text) k e lt = absurd (let bad : [] ≡ t ∷ text = e in cc)
    in_front (x ∷ xs) (t ∷ text) zero e lt = let h : x ∷ take (length text) xs ≡ t ∷ text = e in let s : take (length text) xs ≡ text = cc in ap (λ l. b ∷ l) s
    in_front (x ∷ xs) (t ∷ text) (suc k) e lt = let h : x ∷ take (length text) xs ≡ t ∷ text = e in let i : x ≡ t = cc in let s : take (length text) xs ≡ text = cc in
        ap (λ y. y ∷ take (length text) (slice_set xs k b)) i ∙ ap (λ l. t ∷ l) (in_front xs text k s (omega (arith, lt)))

-- ---- a vector of the same elements, and elements that are set

pub get_same : {A : Type 0} (n k : ℕ) (v w : A) → slice_get (replicate n v) k ≡ Some w → v ≡ w
get_same zero k v w e = absurd (let bad : None ≡ Some w = e in cc)
get_same (suc n) zero v w e = let s : Some v ≡ Some w = e in cc
get_same (suc n) (suc k) v w e = get_same n k v w e
