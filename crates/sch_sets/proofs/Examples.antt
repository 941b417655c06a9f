-- Worked sets: what words of 64 bits hold, and what is said of sets.
use Rattle.std.proofs.Common.{arith, ◌<◌, ◌≡◌, ℕ, true, false, List, [], ◌∷◌, refl}
use Rattle.std.specs.FinSet as set
use Rattle.sch_sets.specs.Members.{NumberSet, IsMember, HasMember, HasNone, IsSubset, IsBelow, IsFirst, has_bit, numbers_below, numbers_in}
use Rattle.sch_sets.proofs.Membership.{member-empty, subset-insert, tests}

-- ## One word: bits 0, 3 and 63

abbrev one_word : List ℕ
one_word = 0x8000_0000_0000_0009 ∷ []

one_word_bits : (has_bit one_word 0 ≡ true) × (has_bit one_word 1 ≡ false) × (has_bit one_word 3 ≡ true)
    × (has_bit one_word 63 ≡ true) × (has_bit one_word 64 ≡ false)
unfolding has_bit
one_word_bits = (refl, refl, refl, refl, refl)

one_word_numbers : numbers_in one_word ≡ set.insert (set.insert (set.insert set.empty 0) 3) 63
unfolding numbers_in numbers_below has_bit
one_word_numbers = refl

-- ## Four words: the last bit of the first, the first of the second and the last of all

abbrev four_words : List ℕ
four_words = 0x8000_0000_0000_0000 ∷ 1 ∷ 0 ∷ 0x8000_0000_0000_0000 ∷ []

four_words_numbers : numbers_in four_words ≡ set.insert (set.insert (set.insert set.empty 63) 64) 255
unfolding numbers_in numbers_below has_bit
four_words_numbers = refl

-- ## Sixteen words: the number 70, which is bit 6 of the second, and the last of all

abbrev sixteen_words : List ℕ
sixteen_words = 0 ∷ 0x40 ∷ 0 ∷ 0 ∷ 0 ∷ 0 ∷ 0 ∷ 0 ∷ 0 ∷ 0 ∷ 0 ∷ 0 ∷ 0 ∷ 0 ∷ 0 ∷ 0x8000_0000_0000_0000 ∷ []

sixteen_words_numbers : numbers_in sixteen_words ≡ set.insert (set.insert set.empty 70) 1023
unfolding numbers_in numbers_below has_bit
sixteen_words_numbers = refl

-- ## Sets of two numbers

abbrev three : NumberSet
three = set.insert set.empty 3

abbrev three_and_seventy : NumberSet
three_and_seventy = set.insert three 70

members : IsMember 3 three_and_seventy × IsMember 70 three_and_seventy × (IsMember 4 three_and_seventy → ⊥)
members = grind (arith, tests)

some_member : HasMember three_and_seventy × (HasMember set.empty → ⊥)
some_member = ((3, grind (arith, tests)), λ (v, member). member-empty v member)

subsets : IsSubset three three_and_seventy × (IsSubset three_and_seventy three → ⊥)
subsets = (subset-insert three 70, λ within. let h : IsMember 70 three = within 70 (grind (arith, tests)) in grind (arith, tests, h))

bounds : IsBelow 71 three_and_seventy × (IsBelow 70 three_and_seventy → ⊥)
bounds = (λ v member. grind (arith, tests, member), λ below. let h : 70 < 70 = below 70 (grind (arith, tests)) in omega arith)

first : IsFirst 4 71 three_and_seventy 70 × (HasNone 4 70 three_and_seventy × (HasNone 4 71 three_and_seventy → ⊥))
first =
    let none : HasNone 4 70 three_and_seventy = λ v least high member. grind (arith, tests, least, high, member) in
    ((omega arith, (omega arith, (grind (arith, tests), none))), (none, λ past. past 70 (omega arith) (omega arith) (grind (arith, tests))))
