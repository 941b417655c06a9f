-- The memory of an image is laid out as a machine's memory is.
use Rattle.std.proofs.Common.{◌≡◌, ℕ, zero, suc, ◌+◌, ◌-◌, ◌<◌, ◌≤◌, ◌^◌, List, [], ◌∷◌, ◌++◌, length, take, drop, get_or, Bool, true, false, refl, sym, ap, ◌∙◌, arith, length-append}
use Rattle.std.specs.Prelude.{replicate, All}
use Rattle.std.proofs.lemmas.Bool.Decides.{nat_tests}
use Rattle.std.proofs.Math.Seq.{take-append_seam}
use Rattle.std.proofs.lemmas.List.{drop-replicate, length-map, length-replicate}
use Rattle.sch_word.specs.values.Memory as words
use Rattle.sch_insn.specs.Machine.{holds}
use Rattle.sch_elf.specs.declared.image.Segment.{Segment}
use Rattle.sch_elf.specs.Layout as image
use Rattle.sch_step.specs.Layout.{segment_at, IsMemory}

abbrev zeros_of : ℕ → List ℕ
zeros_of n = replicate n 0

zero_count : (n : ℕ) → length (zeros_of n) ≡ n
zero_count n = let zero_byte : ℕ = 0 in length-replicate n zero_byte

-- Bytes put over the first of some zeros.
pub filled : (given bytes over items : List ℕ) (n zeros : ℕ) → given ≡ bytes ++ drop (length bytes) over → over ≡ items → n ≡ length bytes + zeros → items ≡ replicate (length bytes + zeros) 0
    → take n (given ++ drop (length given) items) ≡ bytes ++ zeros_of zeros
filled given bytes over items n zeros g o size all =
    let rest : drop (length bytes) over ≡ zeros_of zeros =
    ap (drop (length bytes)) (o ∙ all) ∙ drop-replicate (length bytes) (length bytes + zeros) 0 ∙ ap zeros_of (left (length bytes) zeros) in
    let whole : given ≡ bytes ++ zeros_of zeros = g ∙ ap (λ l. bytes ++ l) rest in
    let count : n ≡ length given = omega (arith, size, ap length whole, length-append bytes (zeros_of zeros), zero_count zeros) in
    ap (λ k. take k (given ++ drop (length given) items)) count ∙ take-append_seam given (drop (length given) items) ∙ whole
  where
    left : (m z : ℕ) → m + z - m ≡ z
    left m z = omega arith

memory_at : (gs : List Segment) (i : ℕ) (d : Segment) → i < length gs → segment_at (image.memory gs) i ≡ image.memory_of (get_or gs i d)
memory_at [] i d l = absurd (omega (arith, l))
memory_at (g ∷ gs) zero d l = refl
memory_at (g ∷ gs) (suc i) d l = memory_at gs i d (omega (arith, l))

size_is : (g : Segment) → length (image.memory_of g).bytes ≡ image.size_of g
size_is g = omega (arith, length-append g.bytes (replicate g.zeros 0), zero_count g.zeros)

-- A segment that holds a byte has it between its address and its end.
starts : (g : words.Segment) (a n : ℕ) → 0 < n → holds g a n ≡ true → g.address ≤ a
starts g a n z e = grind (arith, nat_tests)

stops : (g : words.Segment) (a n : ℕ) → 0 < n → holds g a n ≡ true → a < g.address + length g.bytes
stops g a n z e = grind (arith, nat_tests)

one_of_two : (g h : Segment) (a n : ℕ) → 0 < n → image.AreApart g h → holds (image.memory_of h) a n ≡ true → holds (image.memory_of g) a n ≡ false
one_of_two g h a n z apart e = go (holds (image.memory_of g) a n) refl
  where
    go : (b : Bool) → holds (image.memory_of g) a n ≡ b → holds (image.memory_of g) a n ≡ false
    go false f = f
    go true f =
        let sg = size_is g in let sh = size_is h in
        let g0 = starts (image.memory_of g) a n z f in let g1 = stops (image.memory_of g) a n z f in
        let h0 = starts (image.memory_of h) a n z e in let h1 = stops (image.memory_of h) a n z e in
        absurd (apart a g0 (omega (arith, g1, sg)) h0 (omega (arith, h1, sh)))

ends_low : (gs : List Segment) → All (λ g. image.end_of g ≤ 2 ^ 47) gs → (i : ℕ) → (segment_at (image.memory gs) i).address + length (segment_at (image.memory gs) i).bytes ≤ 2 ^ 47
ends_low [] h i = omega arith
ends_low (g ∷ gs) h zero = let low = h 0 g (omega arith) in omega (arith, low, size_is g)
ends_low (g ∷ gs) h (suc i) = ends_low gs (λ k d l. h (suc k) d (omega (arith, l))) i

pub image_laid_out : (gs : List Segment) → image.IsImageLayout gs → IsMemory (image.memory gs)
image_laid_out [] laid = record { apart = λ i j a n l m z e. absurd (omega (arith, m)); ends = ends_low [] laid.ends }
image_laid_out (g ∷ gs) laid = record {
  apart = λ i j a n l m z e.
      let all = g ∷ gs in
      let mj : j < length all = omega (arith, m, length-map all image.memory_of) in
      let mi : i < length all = omega (arith, l, mj) in
      let pj = memory_at all j g mj in
      let pi = memory_at all i g mi in
      ap (λ x. holds x a n) pi ∙ one_of_two (get_or all i g) (get_or all j g) a n z (laid.apart i j g l mj) (sym (ap (λ x. holds x a n) pj) ∙ e);
  ends = ends_low (g ∷ gs) laid.ends;
}
