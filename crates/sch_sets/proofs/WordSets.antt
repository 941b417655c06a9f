-- The set that words of 64 bits hold: which numbers are in it, and what the bits of words say of sets.
use Rattle.std.proofs.Common.{◌≡◌, ◌≢◌, ℕ, ◌+◌, ◌-◌, ◌*◌, ◌/◌, ◌%◌, ◌^◌, ◌<◌, ◌≤◌, ◌∙◌, suc, zero, Bool, true, false, cond, List, length, get_or, nat_eq, nat_lt, refl, ap, sym, subst, arith, inl, inr, w64, get_or-set_same, get_or-set_other, below_more}
use Rattle.std.specs.Prelude.{◌&&◌, ◌||◌, not, nat_le, bit_and, bit_or}
use Rattle.std.specs.Int.{bit_at, trailing_zeros}
use Rattle.std.specs.FinSet as fin
use Rattle.std.proofs.Math.ListN.{set, replicate}
use Rattle.std.proofs.lemmas.Bool.{cases_eq, cases_lt}
use Rattle.std.proofs.lemmas.Bool.Decides.{nat_tests}
use Rattle.std.proofs.lemmas.List.{get_or_past, get_or-replicate, length-replicate}
use Rattle.std.proofs.lemmas.Nat.Bits.{bit_at_or, bit_at_and, bit_at-zero, bit_at_set_same, bit_at_set_other, bit_at_clear_same, bit_at_clear_other, bit_at_not, bit_at_ones, bit_at_ones_above, bit_at-trailing_zeros, bit_at-lt}
use Rattle.std.proofs.lemmas.Nat.{one_shl}
use mathlib.Core.Bool.{true≢false}
use Rattle.sch_sets.specs.Members.{NumberSet, HasMember, HasNone, IsBelow, IsFirst, has_bit, numbers_below, numbers_in}
use Rattle.sch_sets.proofs.Membership.{same_tests, contains-empty, contains-insert, contains-remove, contains-union, contains-intersection, contains-difference, tests}

-- ## Which numbers words hold

-- one more number, which passes or does not
numbers_below-suc : (test : ℕ → Bool) (n v : ℕ) (s : NumberSet) (b : Bool) → test n ≡ b → fin.contains s v ≡ (nat_lt v n && test v)
    → fin.contains (cond b (fin.insert s n) s) v ≡ (nat_lt v (suc n) && test v)
numbers_below-suc test n v s true passes before =
    rw (contains-insert s n v, before)
    (elim (cases_eq v n) [ inl same ↦ grind (arith, nat_tests, same, passes) | inr other ↦ grind (arith, nat_tests, other) ])
numbers_below-suc test n v s false fails before =
    rw before (elim (cases_eq v n) [ inl same ↦ grind (arith, nat_tests, same, fails) | inr other ↦ grind (arith, nat_tests, other) ])

contains-numbers_below : (n : ℕ) (test : ℕ → Bool) (v : ℕ) → fin.contains (numbers_below n test) v ≡ (nat_lt v n && test v)
unfolding numbers_below
contains-numbers_below zero test v = grind (arith, tests)
contains-numbers_below (suc n) test v = numbers_below-suc test n v (numbers_below n test) (test n) refl (contains-numbers_below n test v)

has_bit-above : (words : List ℕ) (v : ℕ) → 64 * length words ≤ v → has_bit words v ≡ false
unfolding has_bit
has_bit-above words v above =
    let past : get_or words (v / 64) 0 ≡ 0 = get_or_past words (v / 64) 0 (omega arith) in
    rw (past, bit_at-zero (v % 64)) refl

-- a number is in the set of some words where its bit is set
pub contains-numbers_in : (words : List ℕ) (v : ℕ) → fin.contains (numbers_in words) v ≡ has_bit words v
unfolding numbers_in
contains-numbers_in words v =
    grind (arith, nat_tests, contains-numbers_below (64 * length words) (has_bit words) v, has_bit-above words v)

-- words hold a set where they have the bits of its members
numbers_in-same : (words : List ℕ) (s : NumberSet) → ((v : ℕ) → has_bit words v ≡ fin.contains s v) → numbers_in words ≡ s
numbers_in-same words s each = same_tests _ _ (λ v. contains-numbers_in words v ∙ each v)

-- what words hold is below 64 times their number
pub numbers_in-below : (words : List ℕ) → IsBelow (64 * length words) (numbers_in words)
numbers_in-below words v member =
    elim (cases_lt v (64 * length words)) [
      | inl below ↦ below
      | inr above ↦ absurd (true≢false (sym member ∙ contains-numbers_in words v ∙ has_bit-above words v above))
    ]

-- ## Words that are 0

-- words that are 0 hold no number
pub numbers_in-zeros : (words : List ℕ) → ((j : ℕ) → j < length words → get_or words j 0 ≡ 0) → numbers_in words ≡ fin.empty
unfolding has_bit
numbers_in-zeros words each =
    numbers_in-same _ _ (λ v.
    let zeros : get_or words (v / 64) 0 ≡ 0 =
    elim (cases_lt (v / 64) (length words)) [ inl below ↦ each (v / 64) below | inr past ↦ get_or_past words (v / 64) 0 (omega arith) ] in
    rw (zeros, bit_at-zero (v % 64)) (sym (contains-empty v)))

-- and so do n of them, as a new set has them
pub numbers_in-replicate : (n : ℕ) → numbers_in (replicate n 0) ≡ fin.empty
numbers_in-replicate n =
    let size : length (replicate {A = ℕ} n 0) ≡ n = length-replicate n 0 in
    numbers_in-zeros _ (λ j h. get_or-replicate n j 0 0 (omega arith))

-- a word that is not 0 holds some number
pub numbers_in-member : (words : List ℕ) (j : ℕ) → get_or words j 0 < 2 ^ 64 → get_or words j 0 ≢ 0
    → HasMember (numbers_in words)
unfolding has_bit
numbers_in-member words j fits some =
    let w : ℕ = get_or words j 0 in
    let lowest = bit_at-trailing_zeros w64 w (omega arith) fits in
    let v : ℕ = j * 64 + trailing_zeros w64 w in
    let word : v / 64 ≡ j = omega arith in
    let bit : v % 64 ≡ trailing_zeros w64 w = omega arith in
    let member : has_bit words v ≡ true = rw (word, bit, lowest.1) refl in
    (v, contains-numbers_in words v ∙ member)

-- ## The first member from a number on

-- the bits of a word from one on
pub bit_from : (w b k : ℕ) → w < 2 ^ 64 → b < 64 → k < 64
    → nat_eq (bit_at (bit_and w (2 ^ 64 - 1 - (1 * 2 ^ b % 2 ^ 64 - 1))) k) 1 ≡ (nat_le b k && nat_eq (bit_at w k) 1)
bit_from w b k fits small low =
    let ones : ℕ = 1 * 2 ^ b % 2 ^ 64 - 1 in
    let kept : bit_at (2 ^ 64 - 1 - ones) k ≡ 1 - bit_at (2 ^ b - 1) k
    = bit_at_not w64 ones k (omega arith) low ∙ ap (λ m. 1 - bit_at (m - 1) k) (one_shl b 64 small) in
    rw (bit_at_and w (2 ^ 64 - 1 - ones) k, kept)
    (elim (cases_lt k b) [
      | inl below ↦ rw (bit_at_ones b k below) (grind (arith, nat_tests))
      | inr above ↦ rw (bit_at_ones_above b k above) (grind (arith, nat_tests, bit_at-lt w k))
    ])

-- bit k of word j stands for the number 64 j + k
pub contains-word : (words : List ℕ) (j k : ℕ) → k < 64 → fin.contains (numbers_in words) (64 * j + k) ≡ nat_eq (bit_at (get_or words j 0) k) 1
unfolding has_bit
contains-word words j k low =
    let word : (64 * j + k) / 64 ≡ j = omega arith in
    let bit : (64 * j + k) % 64 ≡ k = omega arith in
    contains-numbers_in words (64 * j + k) ∙ rw (word, bit) refl

-- a word whose bits stand for the members from a number on
abbrev pub TellsMembers : (s : NumberSet) (from i word : ℕ) → Type 0
TellsMembers s from i word = (k : ℕ) → k < 64 → nat_eq (bit_at word k) 1 ≡ (nat_le from (64 * i + k) && fin.contains s (64 * i + k))

-- none of them, where it is 0
pub none_in_word : (s : NumberSet) (from i word : ℕ) → TellsMembers s from i word → word ≡ 0 → HasNone from (64 * i) s → HasNone from (64 * (i + 1)) s
none_in_word s from i word tells none before v low high member =
    elim (cases_lt v (64 * i)) [
      | inl below ↦ before v low below member
      | inr above ↦
          let k : ℕ = v - 64 * i in
          let is : 64 * i + k ≡ v = omega arith in
          let told : nat_eq (bit_at word k) 1 ≡ (nat_le from v && fin.contains s v) = subst (λ z. nat_eq (bit_at word k) 1 ≡ (nat_le from z && fin.contains s z)) is (tells k (omega arith)) in
          let off : bit_at word k ≡ 0 = ap (λ z. bit_at z k) none ∙ bit_at-zero k in
          grind (arith, nat_tests, told, off, low, member)
    ]

-- none below its lowest bit
none_below : (s : NumberSet) (from i word : ℕ) → TellsMembers s from i word → HasNone from (64 * i) s → (k : ℕ) → k < 64
    → ((j : ℕ) → j < k → bit_at word j ≡ 0) → HasNone from (64 * i + k) s
none_below s from i word tells before k low zeros v least high member =
    elim (cases_lt v (64 * i)) [
      | inl below ↦ before v least below member
      | inr above ↦
          let j : ℕ = v - 64 * i in
          let is : 64 * i + j ≡ v = omega arith in
          let told : nat_eq (bit_at word j) 1 ≡ (nat_le from v && fin.contains s v) = subst (λ z. nat_eq (bit_at word j) 1 ≡ (nat_le from z && fin.contains s z)) is (tells j (omega arith)) in
          let off : bit_at word j ≡ 0 = zeros j (omega arith) in
          grind (arith, nat_tests, told, off, least, member)
    ]

-- else the first is that of its lowest bit
pub first_in_word : (s : NumberSet) (from end i word : ℕ) → TellsMembers s from i word → word ≢ 0 → word < 2 ^ 64 → HasNone from (64 * i) s
    → 64 * i + trailing_zeros w64 word < end → IsFirst from end s (64 * i + trailing_zeros w64 word)
first_in_word s from end i word tells some fits before high =
    let lowest = bit_at-trailing_zeros w64 word (omega arith) fits in
    let k : ℕ = trailing_zeros w64 word in
    let told = tells k lowest.0 in
    let on : bit_at word k ≡ 1 = lowest.1 in
    (grind (arith, nat_tests, told, on), (high, (grind (arith, nat_tests, told, on), none_below s from i word tells before k lowest.0 lowest.2)))

-- and where that is past an end, none is before the end
pub none_before : (s : NumberSet) (from end i word : ℕ) → TellsMembers s from i word → word ≢ 0 → word < 2 ^ 64 → HasNone from (64 * i) s
    → end ≤ 64 * i + trailing_zeros w64 word → HasNone from end s
none_before s from end i word tells some fits before past v least high member =
    let lowest = bit_at-trailing_zeros w64 word (omega arith) fits in
    none_below s from i word tells before (trailing_zeros w64 word) lowest.0 lowest.2 v least (omega arith) member

-- ## One bit that is set or cleared, as the code does it

abbrev with_bit : List ℕ → ℕ → List ℕ
with_bit words v = set words (v / 64) (bit_or (get_or words (v / 64) 0) (1 * 2 ^ (v % 64) % 2 ^ 64))

abbrev without_bit : List ℕ → ℕ → List ℕ
without_bit words v = set words (v / 64) (bit_and (get_or words (v / 64) 0) (2 ^ 64 - 1 - 1 * 2 ^ (v % 64) % 2 ^ 64))

has_bit-with : (words : List ℕ) (u v : ℕ) → u / 64 < length words → has_bit (with_bit words u) v ≡ (nat_eq v u || has_bit words v)
unfolding has_bit
has_bit-with words u v within =
    let small : u % 64 < 64 = omega arith in
    elim (cases_eq (v / 64) (u / 64)) [
      | inl same ↦
          elim (cases_eq (v % 64) (u % 64)) [
            | inl bit ↦
                let equal : v ≡ u = omega arith in
                rw (equal, get_or-set_same, bit_at_set_same w64 (get_or words (u / 64) 0) (u % 64) small) (grind (arith, nat_tests))
            | inr bit ↦
                let other : v ≢ u = λ e. bit (ap (λ x. x % 64) e) in
                rw (same, get_or-set_same, bit_at_set_other w64 (get_or words (u / 64) 0) (u % 64) small (v % 64) bit)
                (grind (arith, nat_tests, other))
          ]
      | inr word ↦
          let other : v ≢ u = λ e. word (ap (λ x. x / 64) e) in
          rw get_or-set_other (grind (arith, nat_tests, other))
    ]

has_bit-without : (words : List ℕ) (u v : ℕ) → u / 64 < length words
    → has_bit (without_bit words u) v ≡ (not (nat_eq v u) && has_bit words v)
unfolding has_bit
has_bit-without words u v within =
    let small : u % 64 < 64 = omega arith in
    elim (cases_eq (v / 64) (u / 64)) [
      | inl same ↦
          elim (cases_eq (v % 64) (u % 64)) [
            | inl bit ↦
                let equal : v ≡ u = omega arith in
                rw (equal, get_or-set_same, bit_at_clear_same w64 (get_or words (u / 64) 0) (u % 64) small) (grind (arith, nat_tests))
            | inr bit ↦
                let other : v ≢ u = λ e. bit (ap (λ x. x % 64) e) in
                rw (same, get_or-set_same, bit_at_clear_other w64 (get_or words (u / 64) 0) (u % 64) small (v % 64) (omega arith) bit)
                (grind (arith, nat_tests, other))
          ]
      | inr word ↦
          let other : v ≢ u = λ e. word (ap (λ x. x / 64) e) in
          rw get_or-set_other (grind (arith, nat_tests, other))
    ]

-- a bit that is set puts its number in
pub numbers_in-insert : (words : List ℕ) (u : ℕ) → u / 64 < length words
    → numbers_in (with_bit words u) ≡ fin.insert (numbers_in words) u
numbers_in-insert words u within =
    numbers_in-same _ _ (λ v.
    has_bit-with words u v within ∙ sym (rw (contains-insert (numbers_in words) u v, contains-numbers_in words v) refl))

-- a bit that is cleared takes its number out
pub numbers_in-remove : (words : List ℕ) (u : ℕ) → u / 64 < length words
    → numbers_in (without_bit words u) ≡ fin.remove (numbers_in words) u
numbers_in-remove words u within =
    numbers_in-same _ _ (λ v.
    has_bit-without words u v within ∙ sym (rw (contains-remove (numbers_in words) u v, contains-numbers_in words v) refl))

-- ## Two lists of n words, and a third that is made of them word by word

module _ (n : ℕ) (xs ys ws : List ℕ) (xn : length xs ≡ n) (yn : length ys ≡ n) (wn : length ws ≡ n) where
  each_word : (f : ℕ → ℕ → ℕ) → f 0 0 ≡ 0 → ((j : ℕ) → j < n → get_or ws j 0 ≡ f (get_or xs j 0) (get_or ys j 0))
      → (j : ℕ) → get_or ws j 0 ≡ f (get_or xs j 0) (get_or ys j 0)
  each_word f none each j =
      elim (cases_lt j n) [
        | inl below ↦ each j below
        | inr past ↦
            let w : get_or ws j 0 ≡ 0 = get_or_past ws j 0 (omega arith) in
            let x : get_or xs j 0 ≡ 0 = get_or_past xs j 0 (omega arith) in
            let y : get_or ys j 0 ≡ 0 = get_or_past ys j 0 (omega arith) in
            rw (w, x, y, none) refl
      ]

  -- words with the bits of both hold the union
  pub numbers_in-union : ((j : ℕ) → j < n → get_or ws j 0 ≡ bit_or (get_or xs j 0) (get_or ys j 0))
      → numbers_in ws ≡ fin.union (numbers_in xs) (numbers_in ys)
  unfolding has_bit
  numbers_in-union each =
      numbers_in-same _ _ (λ v.
      let x : ℕ = get_or xs (v / 64) 0 in
      let y : ℕ = get_or ys (v / 64) 0 in
      rw (
        contains-union (numbers_in xs) (numbers_in ys) v,
        contains-numbers_in xs v,
        contains-numbers_in ys v,
        each_word bit_or refl each (v / 64),
        bit_at_or x y (v % 64),
      )
      (grind (arith, nat_tests, bit_at-lt x (v % 64), bit_at-lt y (v % 64))))

  -- words with the bits that both have hold the intersection
  pub numbers_in-intersection : ((j : ℕ) → j < n → get_or ws j 0 ≡ bit_and (get_or xs j 0) (get_or ys j 0))
      → numbers_in ws ≡ fin.intersection (numbers_in xs) (numbers_in ys)
  unfolding has_bit
  numbers_in-intersection each =
      numbers_in-same _ _ (λ v.
      let x : ℕ = get_or xs (v / 64) 0 in
      let y : ℕ = get_or ys (v / 64) 0 in
      rw (
        contains-intersection (numbers_in xs) (numbers_in ys) v,
        contains-numbers_in xs v,
        contains-numbers_in ys v,
        each_word bit_and refl each (v / 64),
        bit_at_and x y (v % 64),
      )
      (grind (arith, nat_tests, bit_at-lt x (v % 64), bit_at-lt y (v % 64))))

  -- words without the bits of others hold the difference
  pub numbers_in-difference : ((j : ℕ) → j < n → get_or ys j 0 < 2 ^ 64)
      → ((j : ℕ) → j < n → get_or ws j 0 ≡ bit_and (get_or xs j 0) (2 ^ 64 - 1 - get_or ys j 0))
      → numbers_in ws ≡ fin.difference (numbers_in xs) (numbers_in ys)
  unfolding has_bit
  numbers_in-difference small each =
      numbers_in-same _ _ (λ v.
      let x : ℕ = get_or xs (v / 64) 0 in
      let y : ℕ = get_or ys (v / 64) 0 in
      let fits : y < 2 ^ 64 =
      elim (cases_lt (v / 64) n) [
        | inl below ↦ small (v / 64) below
        | inr past ↦ let none : y ≡ 0 = get_or_past ys (v / 64) 0 (omega arith) in omega arith
      ] in
      rw (
        contains-difference (numbers_in xs) (numbers_in ys) v,
        contains-numbers_in xs v,
        contains-numbers_in ys v,
        each_word (λ a b. bit_and a (2 ^ 64 - 1 - b)) refl each (v / 64),
        bit_at_and x (2 ^ 64 - 1 - y) (v % 64),
        bit_at_not w64 y (v % 64) fits (omega arith),
      )
      (grind (arith, nat_tests, bit_at-lt x (v % 64), bit_at-lt y (v % 64))))

-- a turn of a loop that writes `f j` at each j
pub word_written : (f : ℕ → ℕ) (ws : List ℕ) (i : ℕ) → i < length ws → ((j : ℕ) → j < i → get_or ws j 0 ≡ f j)
    → (j : ℕ) → j < i + 1 → get_or (set ws i (f i)) j 0 ≡ f j
word_written f ws i within before =
    below_more _ _ (λ j h. let other : j ≢ i = omega arith in rw get_or-set_other (before j h)) (rw get_or-set_same refl)
