-- A text of at most 19 decimal digits is parsed to the number that they write.
use Rattle.std.proofs.Common.{◌≡◌, ℕ, zero, suc, ◌<◌, ◌≤◌, ◌==◌, List, length, true, false, Result, Ok, rules, arith}
use Rattle.std.specs.Char.{is_ascii_digit}
use Rattle.std.specs.List.{list_all}
use Rattle.std.specs.Str.Parse.{ParsesUnsigned, digits_value}
use Rattle.std.proofs.lemmas.Str.Parse.{IsNumeralModel, numerals_by_value, parse_gives, digits_value_short}

digits : IsNumeralModel (λ ds. list_all is_ascii_digit ds ≡ true) (digits_value 10)
digits = numerals_by_value _ (search rules)

pub parse-digits : {E : Type 0} (bs : List ℕ) (r : Result ℕ E) → ParsesUnsigned 64 10 bs r → list_all is_ascii_digit bs ≡ true → 0 < length bs → length bs ≤ 19 → r ≡ Ok (digits_value 10 bs)
parse-digits bs r h all some few = parse_gives digits 64 bs r h all some (omega (arith, digits_value_short digits bs 19 all few))

pub not_empty : (n : ℕ) → (n == 0) ≡ false → 0 < n
not_empty zero h = absurd cc
not_empty (suc n) h = omega arith
