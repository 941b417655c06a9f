-- The bytes of a text by their use (R5RS 2.1 and 7.1.1). Letters are those of ASCII, and their case
-- counts only inside strings and in characters of one letter.
use Rattle.std.specs.Prelude.{◌==◌, ◌||◌, ℕ, Bool, List, codes, map, not, if◌then◌else◌}
use Rattle.std.specs.Char.{is_ascii_digit, is_ascii_alphabetic, to_ascii_lowercase}
use Rattle.sch_word.specs.trees.NumberSets.{has}

-- space, tab, line feed, carriage return or form feed
abbrev pub is_white : ℕ → Bool
is_white b = b == 32 || (b == 9 || (b == 10 || (b == 13 || b == 12)))

-- white space, a parenthesis, a double quote or a semicolon
abbrev pub is_delimiter : ℕ → Bool
is_delimiter b = is_white b || (b == 40 || (b == 41 || (b == 34 || b == 59)))

-- a byte that goes on with a word
abbrev pub is_word_byte : ℕ → Bool
is_word_byte b = not (is_delimiter b)

-- the bytes with their letters in lower case
abbrev pub folded : List ℕ → List ℕ
folded bytes = map to_ascii_lowercase bytes

-- what an identifier may begin with
abbrev pub is_initial : ℕ → Bool
is_initial b = is_ascii_alphabetic b || has b (codes "!$%&*/:<=>?^_~")

-- what may follow in it
abbrev pub is_subsequent : ℕ → Bool
is_subsequent b = is_initial b || (is_ascii_digit b || has b (codes "+-.@"))

-- R5RS has `\"` and `\\`; `\n` and `\t` are this project's own
abbrev pub is_escape : ℕ → Bool
is_escape b = has b (codes "\"\\nt")

abbrev pub escaped : ℕ → ℕ
escaped b = if b == 110 then 10 else (if b == 116 then 9 else b)
