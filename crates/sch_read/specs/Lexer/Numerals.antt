-- Numerals, and the words that are taken for them (R5RS 7.1.1).
use Rattle.std.specs.Prelude.{◌==◌, ◌||◌, ◌&&◌, ℕ, Bool, List, if◌then◌else◌, codes, drop, nat_lt, not, slice_index}
use Rattle.std.specs.List.{list_all}
use Rattle.std.specs.Char.{digit_value, is_ascii_digit, to_ascii_lowercase}
use Rattle.sch_word.specs.trees.NumberSets.{has}
use Rattle.sch_read.specs.Lexer.Lexeme.{is_empty}

-- the first byte is `#`, and the second names a base: binary, octal, decimal or hexadecimal
abbrev pub has_base : List ℕ → Bool
has_base word = slice_index word 0 == 35 && has (to_ascii_lowercase (slice_index word 1)) (codes "bodx")

-- the base that a letter names
abbrev pub base_named : ℕ → ℕ
base_named b = if b == 98 then 2 else (if b == 111 then 8 else (if b == 120 then 16 else 10))

abbrev pub base_of : List ℕ → ℕ
base_of word = if has_base word then base_named (to_ascii_lowercase (slice_index word 1)) else 10

-- the word without the name of its base
abbrev pub numeral_of : List ℕ → List ℕ
numeral_of word = if has_base word then drop 2 word else word

-- such a word is a number or ill formed: it names a base, or begins with a digit, or with a sign or
-- a point and then a digit
abbrev pub is_number_like : List ℕ → Bool
is_number_like word = has_base word || (is_ascii_digit (slice_index word 0)
    || (has (slice_index word 0) (codes "+-.") && is_ascii_digit (slice_index word 1)))

-- at least one digit, and each of the base
abbrev pub are_digits : ℕ → List ℕ → Bool
are_digits base ds = not (is_empty ds) && list_all (λ c. nat_lt (digit_value c) base) ds
