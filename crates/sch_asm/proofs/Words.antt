-- Words of a program's data: what loads and stores of them do.
use Rattle.std.proofs.Common.{◌≡◌, ℕ, ◌+◌, ◌-◌, ◌*◌, ◌^◌, ◌<◌, ◌≤◌, List, [], ◌∷◌, ◌++◌, length, take, drop, true, false, cond, Option, Some, None, refl, sym, ap, ◌∙◌, arith, ⊎_elim, ◌⊎◌, nat_le, ◌&&◌}
use Rattle.std.specs.Prelude.{slice_index, Result, Ok}
use Rattle.std.specs.Int.{w64, to_le_bytes, from_le_bytes}
use Rattle.std.specs.List.{between, flat_map}
use Rattle.std.proofs.lemmas.Bool.Decides.{nat_tests}
use Rattle.std.proofs.lemmas.List.{get_or-take, drop-drop}
use Rattle.std.proofs.lemmas.Nat.{from_le_bytes-to_le_bytes_8}
use Rattle.std.proofs.lemmas.Slice.{between-put_mid, between_is, take-put_mid_below, drop-put_mid}
use borrow.Rule.Slice.PartMut.{put_mid}
use Rattle.sch_word.specs.values.Options.{when_ok}
use Rattle.sch_word.specs.values.Memory.{Segment}
use Rattle.sch_word.specs.runs.ProgramLayout.{data_address}
use Rattle.sch_insn.specs.declared.state.StuckCause.{StuckCause}
use Rattle.sch_insn.specs.Machine.{holds, bytes_from, put_bytes, with_bytes, behind_segment, stored, or_access, word_at}
use Rattle.sch_insn.proofs.PutSize.{size_put}
use Rattle.sch_asm.specs.Stands.{Setting}
use Rattle.sch_asm.specs.Data.{data_at, word_in, with_word, Inside}
use Rattle.sch_asm.specs.declared.assembly.Word.{Word}
use Rattle.sch_asm.specs.Codes.{bytes_of}

-- ---- the bytes of words

-- eight for each
pub data_length : (place : ℕ → ℕ) (ws : List Word) → length (flat_map (bytes_of place) ws) ≡ 8 * length ws
data_length place [] = refl
data_length place (w ∷ ws) = let h = data_length place ws in omega (arith, h)

-- ---- words of a list of bytes, by their offsets

abbrev word_from : List ℕ → ℕ → ℕ
word_from bs k = from_le_bytes w64 (drop k bs)

abbrev word_put : List ℕ → ℕ → ℕ → List ℕ
word_put bs k v = put_bytes bs k (to_le_bytes w64 v)

-- only eight bytes count
pub eight_count : (xs ys : List ℕ) → take 8 xs ≡ take 8 ys → from_le_bytes w64 xs ≡ from_le_bytes w64 ys
eight_count xs ys e =
    let at : (i : ℕ) → i < 8 → slice_index xs i ≡ slice_index ys i = λ i lt. sym (get_or-take 8 xs i 0 lt) ∙ ap (λ l. slice_index l i) e ∙ get_or-take 8 ys i 0 lt in
    rw (at 0 (omega arith), at 1 (omega arith), at 2 (omega arith), at 3 (omega arith), at 4 (omega arith), at 5 (omega arith), at 6 (omega arith), at 7 (omega arith)) refl

pub take_eight : (xs : List ℕ) (k : ℕ) → between k (k + 8) xs ≡ take 8 (drop k xs)
take_eight xs k = let e : k + 8 - k ≡ 8 = omega arith in ap (λ n. take n (drop k xs)) e

-- what a slice write leaves
as_written : (bs : List ℕ) (k v : ℕ) → word_put bs k v ≡ put_mid k 8 bs (to_le_bytes w64 v)
as_written bs k v = ap (λ l. take k bs ++ (to_le_bytes w64 v ++ l)) (sym (drop-drop 8 k bs))

length_put : (bs : List ℕ) (k v : ℕ) → k + 8 ≤ length bs → length (word_put bs k v) ≡ length bs
length_put bs k v within = size_put bs k (to_le_bytes w64 v) within

from_same : (bs : List ℕ) (k v : ℕ) → k ≤ length bs → v < 2 ^ 64 → word_from (word_put bs k v) k ≡ v
from_same bs k v within fits =
    let size : 8 ≡ k + 8 - k = omega arith in
    let put : between k (k + 8) (word_put bs k v) ≡ to_le_bytes w64 v = ap (between k (k + 8)) (as_written bs k v) ∙ between-put_mid k 8 bs (to_le_bytes w64 v) (k + 8) within size in
    eight_count (drop k (word_put bs k v)) (to_le_bytes w64 v) (sym (take_eight (word_put bs k v) k) ∙ put)
    ∙ from_le_bytes-to_le_bytes_8 v fits

from_below : (bs : List ℕ) (k j v : ℕ) → k ≤ length bs → j + 8 ≤ k → word_from (word_put bs k v) j ≡ word_from bs j
from_below bs k j v within le =
    eight_count (drop j (word_put bs k v)) (drop j bs)
    (sym (take_eight (word_put bs k v) j) ∙ ap (between j (j + 8)) (as_written bs k v) ∙ between_is (put_mid k 8 bs (to_le_bytes w64 v)) j (j + 8)
    ∙ ap (drop j) (take-put_mid_below k 8 bs (to_le_bytes w64 v) (j + 8) le within) ∙ sym (between_is bs j (j + 8)) ∙ take_eight bs j)

drop_above : (bs : List ℕ) (k j v : ℕ) → k ≤ length bs → k + 8 ≤ j → drop j (word_put bs k v) ≡ drop j bs
drop_above bs k j v within le = ap (drop j) (as_written bs k v) ∙ drop-put_mid k 8 bs (to_le_bytes w64 v) j le within refl

bytes_before : (bs : List ℕ) (k j n v : ℕ) → k ≤ length bs → j + n ≤ k → take n (drop j (word_put bs k v)) ≡ take n (drop j bs)
bytes_before bs k j n v within le =
    sym (cut (word_put bs k v)) ∙ ap (between j (j + n)) (as_written bs k v) ∙ between_is (put_mid k 8 bs (to_le_bytes w64 v)) j (j + n)
    ∙ ap (drop j) (take-put_mid_below k 8 bs (to_le_bytes w64 v) (j + n) le within) ∙ sym (between_is bs j (j + n)) ∙ cut bs
  where
    cut : (xs : List ℕ) → between j (j + n) xs ≡ take n (drop j xs)
    cut xs = let e : j + n - j ≡ n = omega arith in ap (λ m. take m (drop j xs)) e

-- ---- by addresses: the word itself, other words, the bytes behind and before, and the size

pub word_same : (bs : List ℕ) (a v : ℕ) → Inside (length bs) a → v < 2 ^ 64 → word_in (with_word bs a v) a ≡ v
word_same bs a v h fits = from_same bs (a - data_address) v (omega (arith, h.low, h.high)) fits

pub word_other : (bs : List ℕ) (a v b : ℕ) → Inside (length bs) a → data_address ≤ b → (b + 8 ≤ a) ⊎ (a + 8 ≤ b) → word_in (with_word bs a v) b ≡ word_in bs b
word_other bs a v b h low far =
    ⊎_elim
    (λ le. from_below bs (a - data_address) (b - data_address) v (omega (arith, h.low, h.high)) (omega (arith, h.low, low, le)))
    (λ le. ap (from_le_bytes w64) (drop_above bs (a - data_address) (b - data_address) v (omega (arith, h.low, h.high)) (omega (arith, h.low, low, le))))
    far

pub size_kept : (bs : List ℕ) (a v : ℕ) → Inside (length bs) a → length (with_word bs a v) ≡ length bs
size_kept bs a v h = length_put bs (a - data_address) v (omega (arith, h.low, h.high))

-- the bytes from an offset on that lies behind the word
pub behind_word : (bs : List ℕ) (a v j : ℕ) → Inside (length bs) a → a + 8 ≤ data_address + j → drop j (with_word bs a v) ≡ drop j bs
behind_word bs a v j h le = drop_above bs (a - data_address) j v (omega (arith, h.low, h.high)) (omega (arith, h.low, le))

-- n bytes from an offset on that end before the word
pub before_word : (bs : List ℕ) (a v j n : ℕ) → Inside (length bs) a → data_address + (j + n) ≤ a → take n (drop j (with_word bs a v)) ≡ take n (drop j bs)
before_word bs a v j n h le = bytes_before bs (a - data_address) j n v (omega (arith, h.low, h.high)) (omega (arith, h.low, le))

-- ---- loads and stores

module _ (setting : Setting) where
  abbrev pub memory : List ℕ → List Segment
  memory bs = setting.text ∷ data_at bs ∷ []

  pub not_text : (a n : ℕ) → data_address ≤ a → 0 < n → holds setting.text a n ≡ false
  not_text a n low some = go (setting.text.address + length setting.text.bytes) setting.apart
    where
      go : (end : ℕ) → end ≤ data_address → (nat_le setting.text.address a && nat_le (a + n) end) ≡ false
      go end le = grind (arith, nat_tests)

  pub in_data : (bs : List ℕ) (a n : ℕ) → data_address ≤ a → a + n ≤ data_address + length bs → holds (data_at bs) a n ≡ true
  in_data bs a n low high = go (data_address + length bs) high
    where
      go : (end : ℕ) → a + n ≤ end → (nat_le data_address a && nat_le (a + n) end) ≡ true
      go end le = grind (arith, nat_tests)

  pub loads : (bs : List ℕ) (a : ℕ) → Inside (length bs) a → word_at (memory bs) a ≡ Ok (word_in bs a)
  loads bs a h =
      let found : Option (List ℕ) = Some (drop (a - data_address) bs) in
      let none : Option (List ℕ) = None in
      let read : Option (List ℕ) → Result ℕ StuckCause = λ o. when_ok (or_access a o) (λ l. Ok (from_le_bytes w64 l)) in
      ap (λ b. read (cond b (cond setting.text.readable (Some (drop (a - setting.text.address) setting.text.bytes)) none) (bytes_from (λ g. g.readable) (data_at bs ∷ []) a 8))) (not_text a 8 h.low (omega arith))
      ∙ ap (λ b. read (cond b found none)) (in_data bs a 8 h.low h.high)

  pub stores : (bs : List ℕ) (a v : ℕ) → Inside (length bs) a → stored (memory bs) a (to_le_bytes w64 v) ≡ Some (memory (with_word bs a v))
  stores bs a v h =
      let none : Option (List Segment) = None in
      ap (λ b. cond b (cond setting.text.writable (Some (with_bytes setting.text (put_bytes setting.text.bytes (a - setting.text.address) (to_le_bytes w64 v)) ∷ data_at bs ∷ [])) none) (behind_segment setting.text (stored (data_at bs ∷ []) a (to_le_bytes w64 v)))) (not_text a 8 h.low (omega arith))
      ∙ ap (λ b. behind_segment setting.text (cond b (Some (data_at (with_word bs a v) ∷ [])) none)) (in_data bs a 8 h.low h.high)
