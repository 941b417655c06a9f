-- Single bytes of a program's data: what loads and stores of them do.
use Rattle.std.proofs.Common.{◌≡◌, ℕ, zero, suc, ◌+◌, ◌-◌, ◌<◌, ◌≤◌, List, [], ◌∷◌, ◌++◌, length, take, drop, length-append, length-drop, cond, Option, Some, None, refl, sym, ap, ◌∙◌, arith, ⊎_elim, ◌⊎◌}
use Rattle.std.specs.Prelude.{slice_set, Result, Ok}
use Rattle.std.specs.Int.{w64, from_le_bytes}
use Rattle.std.specs.List.{between}
use Rattle.std.proofs.lemmas.List.{drop-drop, length-take-le}
use Rattle.std.proofs.lemmas.Slice.{between_is, take-put_mid_below, drop-put_mid}
use borrow.Rule.Slice.PartMut.{put_mid}
use Rattle.sch_word.specs.values.Memory.{Segment}
use Rattle.sch_insn.specs.declared.state.StuckCause.{StuckCause}
use Rattle.sch_word.specs.values.Options.{first_or_0, when_ok}
use Rattle.sch_word.specs.runs.ProgramLayout.{data_address}
use Rattle.sch_insn.specs.Machine.{bytes_from, put_bytes, with_bytes, behind_segment, stored, or_access, byte_at}
use Rattle.sch_asm.specs.Stands.{Setting}
use Rattle.sch_asm.specs.Data.{data_at, word_in}
use Rattle.sch_asm.proofs.Words.{eight_count, take_eight, memory, not_text, in_data}

-- the data with another byte at an address
abbrev pub with_byte : List ℕ → ℕ → ℕ → List ℕ
with_byte bs a v = put_bytes bs (a - data_address) (v ∷ [])

as_written : (bs : List ℕ) (k v : ℕ) → put_bytes bs k (v ∷ []) ≡ put_mid k 1 bs (v ∷ [])
as_written bs k v = ap (λ l. take k bs ++ (v ∷ l)) (sym (drop-drop 1 k bs))

-- it is what setting an element leaves
set_by_offset : (bs : List ℕ) (k v : ℕ) → k < length bs → put_bytes bs k (v ∷ []) ≡ slice_set bs k v
set_by_offset [] k v lt = absurd (omega arith)
set_by_offset (b ∷ bs) zero v lt = refl
set_by_offset (b ∷ bs) (suc k) v lt = let e : suc k + 1 ≡ suc (k + 1) = omega arith in ap (λ n. b ∷ (take k bs ++ (v ∷ drop n (b ∷ bs)))) e ∙ ap (λ l. b ∷ l) (set_by_offset bs k v (omega arith))

pub byte_set : (bs : List ℕ) (a v : ℕ) → a < data_address + length bs → data_address ≤ a → with_byte bs a v ≡ slice_set bs (a - data_address) v
byte_set bs a v lt low = set_by_offset bs (a - data_address) v (omega (arith, lt, low))

pub size_with_byte : (bs : List ℕ) (a v : ℕ) → data_address ≤ a → a < data_address + length bs → length (with_byte bs a v) ≡ length bs
size_with_byte bs a v low lt =
    let k = a - data_address in
    let parts = length-append (take k bs) (v ∷ drop (k + 1) bs) in
    let cut = length-take-le k bs (omega (arith, low, lt)) in
    omega (arith, low, lt, cut, length-drop (k + 1) bs, parts)

-- the bytes from an offset on: that of the byte, and one behind it
pub from_byte : (bs : List ℕ) (a v : ℕ) → data_address ≤ a → a < data_address + length bs → drop (a - data_address) (with_byte bs a v) ≡ v ∷ drop (a + 1 - data_address) bs
from_byte bs a v low lt =
    let e : a + 1 - data_address ≡ a - data_address + 1 = omega (arith, low) in
    by_offset bs (a - data_address) v (omega (arith, low, lt)) ∙ ap (λ n. v ∷ drop n bs) (sym e)
  where
    by_offset : (bs : List ℕ) (k v : ℕ) → k < length bs → drop k (put_bytes bs k (v ∷ [])) ≡ v ∷ drop (k + 1) bs
    by_offset [] k v lt = absurd (omega arith)
    by_offset (b ∷ bs) zero v lt = refl
    by_offset (b ∷ bs) (suc k) v lt = let e : suc k + 1 ≡ suc (k + 1) = omega arith in rw e (by_offset bs k v (omega arith))

pub behind_byte : (bs : List ℕ) (a v j : ℕ) → data_address ≤ a → a < data_address + length bs → a + 1 ≤ data_address + j → drop j (with_byte bs a v) ≡ drop j bs
behind_byte bs a v j low lt le = let k = a - data_address in ap (drop j) (as_written bs k v) ∙ drop-put_mid k 1 bs (v ∷ []) j (omega (arith, low, le)) (omega (arith, low, lt)) refl

-- words elsewhere
pub word_beside_byte : (bs : List ℕ) (a v b : ℕ) → data_address ≤ a → a < data_address + length bs → data_address ≤ b → (b + 8 ≤ a) ⊎ (a + 1 ≤ b) → word_in (with_byte bs a v) b ≡ word_in bs b
word_beside_byte bs a v b low lt low' far =
    ⊎_elim
    (λ le. below bs (a - data_address) (b - data_address) v (omega (arith, low, lt)) (omega (arith, low, low', le)))
    (λ le. ap (from_le_bytes w64) (behind_byte bs a v (b - data_address) low lt (omega (arith, low', le))))
    far
  where
    below : (bs : List ℕ) (k j v : ℕ) → k ≤ length bs → j + 8 ≤ k → from_le_bytes w64 (drop j (put_bytes bs k (v ∷ []))) ≡ from_le_bytes w64 (drop j bs)
    below bs k j v within le =
        eight_count (drop j (put_bytes bs k (v ∷ []))) (drop j bs)
        (sym (take_eight (put_bytes bs k (v ∷ [])) j) ∙ ap (between j (j + 8)) (as_written bs k v) ∙ between_is (put_mid k 1 bs (v ∷ [])) j (j + 8)
        ∙ ap (drop j) (take-put_mid_below k 1 bs (v ∷ []) (j + 8) le within) ∙ sym (between_is bs j (j + 8)) ∙ take_eight bs j)

module _ (setting : Setting) where
  pub loads_byte : (bs : List ℕ) (a : ℕ) → data_address ≤ a → a < data_address + length bs → byte_at (memory setting bs) a ≡ Ok (first_or_0 (drop (a - data_address) bs))
  loads_byte bs a low high =
      let found : Option (List ℕ) = Some (drop (a - data_address) bs) in
      let none : Option (List ℕ) = None in
      let read : Option (List ℕ) → Result ℕ StuckCause = λ o. when_ok (or_access a o) (λ l. Ok (first_or_0 l)) in
      ap (λ b. read (cond b (cond setting.text.readable (Some (drop (a - setting.text.address) setting.text.bytes)) none) (bytes_from (λ g. g.readable) (data_at bs ∷ []) a 1))) (not_text setting a 1 low (omega arith))
      ∙ ap (λ b. read (cond b found none)) (in_data setting bs a 1 low (omega (arith, high)))

  pub stores_byte : (bs : List ℕ) (a v : ℕ) → data_address ≤ a → a < data_address + length bs → stored (memory setting bs) a (v ∷ []) ≡ Some (memory setting (with_byte bs a v))
  stores_byte bs a v low high =
      let none : Option (List Segment) = None in
      ap (λ b. cond b (cond setting.text.writable (Some (with_bytes setting.text (put_bytes setting.text.bytes (a - setting.text.address) (v ∷ [])) ∷ data_at bs ∷ [])) none) (behind_segment setting.text (stored (data_at bs ∷ []) a (v ∷ [])))) (not_text setting a 1 low (omega arith))
      ∙ ap (λ b. behind_segment setting.text (cond b (Some (data_at (with_byte bs a v) ∷ [])) none)) (in_data setting bs a 1 low (omega (arith, high)))
