-- The words of the names of symbols: first the address of each name, and then the names. A name has the word of its
-- length in front, as a string has it, and its bytes eight to a word.
use Rattle.std.specs.Prelude.{ℕ, ◌+◌, ◌*◌, ◌/◌, List, [], ◌∷◌, ◌++◌, length}
use Rattle.sch_select_data.specs.ObjectWords.{text_words}

abbrev pub name_words : List ℕ → List ℕ
name_words name = 8 * length name ∷ text_words ((length name + 7) / 8) name

abbrev pub each_name : List (List ℕ) → List ℕ
each_name [] = []
each_name (name ∷ names) = name_words name ++ each_name names

-- how many words a name takes, and some names
abbrev pub name_count : List ℕ → ℕ
name_count name = 1 + (length name + 7) / 8

abbrev pub names_count : List (List ℕ) → ℕ
names_count [] = 0
names_count (name ∷ names) = name_count name + names_count names

-- the addresses of names that stand one behind the other from an address on
abbrev pub name_addresses : (at : ℕ) → List (List ℕ) → List ℕ
name_addresses at [] = []
name_addresses at (name ∷ names) = at ∷ name_addresses (at + 8 * name_count name) names

-- the names of symbols, with their addresses, from an address on
abbrev pub symbol_words : (first : ℕ) → List (List ℕ) → List ℕ
symbol_words first symbols = name_addresses (first + 8 * length symbols) symbols ++ each_name symbols

abbrev pub symbols_count : List (List ℕ) → ℕ
symbols_count symbols = length symbols + names_count symbols
