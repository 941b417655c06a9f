-- Words of values tell their kinds apart, and the range of fixnums is what their words leave.
use Rattle.std.proofs.Common.{◌≡◌, ℕ, ◌-◌, ◌^◌, List, [], ◌∷◌, map, pos, refl}
use Rattle.std.specs.Prelude.{bit_and, ◌+ℤ◌, neg_ℤ}
use Rattle.sch_word.specs.declared.fix.TheConstants.{FIXNUM_MIN, FIXNUM_MAX}
use Rattle.sch_select_memory.specs.Encoded.{boolean_mask, byte_mask, cell_tag, character_tag, false_word, fixnum_shift, fixnum_tag, nil_word, pair_tag}
use Rattle.sch_select_memory.specs.Encoded.{procedure_tag, string_tag, symbol_tag, tag_mask, true_word, unset_word, unspecified_word, vector_tag}

-- the eight tags, of which the one of immediates is that of each of their words
tags_apart : fixnum_tag ∷ pair_tag ∷ vector_tag ∷ string_tag ∷ procedure_tag ∷ symbol_tag ∷ 6 ∷ cell_tag ∷ [] ≡ 0 ∷ 1 ∷ 2 ∷ 3 ∷ 4 ∷ 5 ∷ 6 ∷ 7 ∷ []
tags_apart = refl

immediates : List ℕ
immediates = false_word ∷ true_word ∷ nil_word ∷ unspecified_word ∷ unset_word ∷ character_tag ∷ []

tag_of_immediates : map (bit_and tag_mask) immediates ≡ 6 ∷ 6 ∷ 6 ∷ 6 ∷ 6 ∷ 6 ∷ []
unfolding immediates
tag_of_immediates = refl

bytes_of_immediates : map (bit_and byte_mask) immediates ≡ 6 ∷ 134 ∷ 22 ∷ 30 ∷ 38 ∷ 46 ∷ []
unfolding immediates
bytes_of_immediates = refl

-- only the booleans are the same but for one bit
booleans_alone : map (bit_and boolean_mask) immediates ≡ 6 ∷ 6 ∷ 22 ∷ 30 ∷ 38 ∷ 46 ∷ []
unfolding immediates
booleans_alone = refl

-- half of the words of fixnums are those of numbers that are not negative
greatest_fixnum : FIXNUM_MAX +ℤ pos 1 ≡ pos (2 ^ (63 - fixnum_shift))
greatest_fixnum = refl

least_fixnum : FIXNUM_MIN ≡ neg_ℤ (pos (2 ^ (63 - fixnum_shift)))
least_fixnum = refl
