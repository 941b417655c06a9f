-- Some bytes of the data, by their address and their number: what stays of them, and what words say of them.
use Rattle.std.proofs.Common.{◌≡◌, ℕ, zero, suc, ◌+◌, ◌-◌, ◌<◌, ◌≤◌, List, [], ◌∷◌, length, take, drop, refl, ap, ◌∙◌, arith, ◌⊎◌, ⊎_elim}
use Rattle.std.specs.Prelude.{slice_set}
use Rattle.sch_word.specs.runs.ProgramLayout.{data_address}
use Rattle.sch_asm.specs.Data.{Inside, word_in, with_word}
use Rattle.sch_asm.proofs.Words.{eight_count, before_word, behind_word}
use Rattle.sch_asm.proofs.Bytes.{with_byte, byte_set}

abbrev pub piece_in : List ℕ → (a n : ℕ) → List ℕ
piece_in bytes a n = take n (drop (a - data_address) bytes)

-- the bytes from an address to another one are as they were
abbrev pub BytesStay : (from to : ℕ) → (before after : List ℕ) → Type 0
BytesStay from to before after = (a n : ℕ) → from ≤ a → a + n ≤ to → piece_in after a n ≡ piece_in before a n

-- a word is eight bytes
pub word_stays : (before after : List ℕ) (a : ℕ) → piece_in after a 8 ≡ piece_in before a 8 → word_in after a ≡ word_in before a
word_stays before after a e = eight_count (drop (a - data_address) after) (drop (a - data_address) before) e

-- bytes beside a word that is written
pub piece_beside : (bytes : List ℕ) (a v b n : ℕ) → Inside (length bytes) a → data_address ≤ b → (b + n ≤ a) ⊎ (a + 8 ≤ b) → piece_in (with_word bytes a v) b n ≡ piece_in bytes b n
piece_beside bytes a v b n h low far =
    ⊎_elim
    (λ le. before_word bytes a v (b - data_address) n h (omega (arith, low, le)))
    (λ le. ap (take n) (behind_word bytes a v (b - data_address) h (omega (arith, low, le))))
    far

-- ---- one byte

set_behind : (bytes : List ℕ) (j n k v : ℕ) → j + n ≤ k → take n (drop j (slice_set bytes k v)) ≡ take n (drop j bytes)
set_behind [] j n k v le = refl
set_behind (b ∷ bytes) zero zero k v le = refl
set_behind (b ∷ bytes) zero (suc n) zero v le = absurd (omega (arith, le))
set_behind (b ∷ bytes) zero (suc n) (suc k) v le = ap (λ l. b ∷ l) (set_behind bytes zero n k v (omega (arith, le)))
set_behind (b ∷ bytes) (suc j) n zero v le = absurd (omega (arith, le))
set_behind (b ∷ bytes) (suc j) n (suc k) v le = set_behind bytes j n k v (omega (arith, le))

set_before : (bytes : List ℕ) (j k v : ℕ) → suc k ≤ j → drop j (slice_set bytes k v) ≡ drop j bytes
set_before [] j k v le = refl
set_before (b ∷ bytes) zero k v le = absurd (omega (arith, le))
set_before (b ∷ bytes) (suc j) zero v le = refl
set_before (b ∷ bytes) (suc j) (suc k) v le = set_before bytes j k v (omega (arith, le))

-- bytes beside one that is written
pub piece_beside_byte : (bytes : List ℕ) (a v b n : ℕ) → data_address ≤ a → a < data_address + length bytes → data_address ≤ b → (b + n ≤ a) ⊎ (a + 1 ≤ b)
    → piece_in (with_byte bytes a v) b n ≡ piece_in bytes b n
piece_beside_byte bytes a v b n low high from far =
    ap (λ l. piece_in l b n) (byte_set bytes a v high low)
    ∙ ⊎_elim
    (λ le. set_behind bytes (b - data_address) n (a - data_address) v (omega (arith, from, le)))
    (λ le. ap (take n) (set_before bytes (b - data_address) (a - data_address) v (omega (arith, low, le))))
    far
