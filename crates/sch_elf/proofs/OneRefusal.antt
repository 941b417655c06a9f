-- Refusals exclude each other, and any image.
use Rattle.std.proofs.Common.{◌≡◌, ◌≢◌, ℕ, ◌<◌, List, refl, ap, arith, sym, ◌∙◌, ⊎_elim}
use Rattle.std.proofs.lemmas.Bool.{cases_order}
use Rattle.sch_elf.specs.Refused.{IsRefused}
use Rattle.sch_elf.specs.Stands.{IsSound, StandsFor}
use Rattle.sch_elf.specs.declared.image.Image.{Image}
use Rattle.sch_elf.specs.declared.error.ImageError.{ImageError}
use Rattle.sch_elf.specs.declared.error.ImageError.TheVariants.{Short, NotElf, NotThisMachine, BadSegment, TooLarge, Memory}
use Rattle.sch_elf.proofs.ImageOfFile.{same_image}

pub one_image : (file : List ℕ) (one other : Image) → StandsFor file one → StandsFor file other → one ≡ other
one_image file one other a b = same_image one other (a.entry ∙ sym b.entry) (a.segments ∙ sym b.segments)

pub no_image : (file : List ℕ) (error : ImageError) (image : Image) → IsRefused file error → error ≢ Memory → StandsFor file image → ⊥
no_image file Short image r n s = omega (arith, s.long)
no_image file NotElf image r n s = r.1 s.elf
no_image file NotThisMachine image r n s = r.2 s.machine
no_image file (BadSegment i) image r n s = r.3 (s.headers i r.1)
no_image file TooLarge image r n s = omega (arith, r.2, s.total)
no_image file Memory image r n s = n refl

-- the first header that is not sound
first_bad : (file : List ℕ) (i j : ℕ) → ((k : ℕ) → k < i → IsSound file k) → ¬ IsSound file i → ((k : ℕ) → k < j → IsSound file k) → ¬ IsSound file j → i ≡ j
first_bad file i j a b c d = ⊎_elim (λ e. e) (λ s. ⊎_elim (λ lt. absurd (b (c i lt))) (λ gt. absurd (d (a j gt))) s) (cases_order i j)

pub one_reason : (file : List ℕ) (one other : ImageError) → IsRefused file one → IsRefused file other → one ≢ Memory → other ≢ Memory → one ≡ other
one_reason file Memory other r s n m = absurd (n refl)
one_reason file one Memory r s n m = absurd (m refl)
one_reason file Short Short r s n m = refl
one_reason file Short NotElf r s n m = absurd (omega (arith, r, s.0))
one_reason file Short NotThisMachine r s n m = absurd (omega (arith, r, s.0))
one_reason file Short (BadSegment j) r s n m = absurd (omega (arith, r, s.0.long))
one_reason file Short TooLarge r s n m = absurd (omega (arith, r, s.0.long))
one_reason file NotElf Short r s n m = absurd (omega (arith, s, r.0))
one_reason file NotElf NotElf r s n m = refl
one_reason file NotElf NotThisMachine r s n m = absurd (r.1 s.1)
one_reason file NotElf (BadSegment j) r s n m = absurd (r.1 s.0.elf)
one_reason file NotElf TooLarge r s n m = absurd (r.1 s.0.elf)
one_reason file NotThisMachine Short r s n m = absurd (omega (arith, s, r.0))
one_reason file NotThisMachine NotElf r s n m = absurd (s.1 r.1)
one_reason file NotThisMachine NotThisMachine r s n m = refl
one_reason file NotThisMachine (BadSegment j) r s n m = absurd (r.2 s.0.machine)
one_reason file NotThisMachine TooLarge r s n m = absurd (r.2 s.0.machine)
one_reason file (BadSegment i) Short r s n m = absurd (omega (arith, s, r.0.long))
one_reason file (BadSegment i) NotElf r s n m = absurd (s.1 r.0.elf)
one_reason file (BadSegment i) NotThisMachine r s n m = absurd (s.2 r.0.machine)
one_reason file (BadSegment i) (BadSegment j) r s n m = ap BadSegment (first_bad file i j r.2 r.3 s.2 s.3)
one_reason file (BadSegment i) TooLarge r s n m = absurd (r.3 (s.1 i r.1))
one_reason file TooLarge Short r s n m = absurd (omega (arith, s, r.0.long))
one_reason file TooLarge NotElf r s n m = absurd (s.1 r.0.elf)
one_reason file TooLarge NotThisMachine r s n m = absurd (s.2 r.0.machine)
one_reason file TooLarge (BadSegment j) r s n m = absurd (s.3 (r.1 j s.1))
one_reason file TooLarge TooLarge r s n m = refl
