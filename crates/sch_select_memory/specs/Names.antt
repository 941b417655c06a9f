-- The names of symbols in the data: first a word for each symbol, the address of its name, and then the names, each with
-- the word of its length in front, as a string has it.
use Rattle.std.specs.Prelude.{◌≡◌, ℕ, ◌+◌, ◌-◌, ◌*◌, ◌≤◌, List, length, take, drop, Some, slice_get, true}
use Rattle.std.specs.Int.{w64, from_le_bytes}
use Rattle.sch_word.specs.values.Values.{are_bytes}

-- the word at an address of some bytes that begin at another one
abbrev pub word_from : (bytes : List ℕ) → (first a : ℕ) → ℕ
word_from bytes first a = from_le_bytes w64 (drop (a - first) bytes)

-- The name of a symbol: where it is, its length, and its bytes.
pub record IsNamed (names : List ℕ) (first n : ℕ) (name : List ℕ) : Type 0 where
  pub at : ℕ
  pub pointer : word_from names first (first + 8 * n) ≡ at
  pub low : first ≤ at
  pub high : at + 8 + length name ≤ first + length names
  pub entry_high : first + 8 * n + 8 ≤ first + length names
  pub size : word_from names first at ≡ 8 * length name
  pub text : take (length name) (drop (at + 8 - first) names) ≡ name
  pub are_bytes : are_bytes name ≡ true

-- Each symbol has its name in these bytes, which begin at an address.
pub record AreNamed (symbols : List (List ℕ)) (names : List ℕ) (first : ℕ) : Type 0 where
  pub each : (n : ℕ) (name : List ℕ) → slice_get symbols n ≡ Some name → IsNamed names first n name
