use Rattle.std.proofs.Common.{◌≡◌, ◌-◌, ◌^◌, min, true, rules, ◌∙◌, ap, cond}
use Rattle.std.specs.Prelude.{pos, neg_ℤ}
use Rattle.std.specs.Str.Parse.{digits_value, starts_with_minus, without_leading_sign}
use Rattle.sch_read.specs.Lexer.Numerals.{base_of, numeral_of, are_digits}
use Rattle.sch_read.specs.Lexer.Token.{integer_at}
use Rattle.sch_read.proofs.CappedNumbers.{number-signed}
use Rattle.sch_read.proofs.integer_token.number_token.Goals as goal

pub returns : goal.returns
returns c at =
    let word = c.args.word.now in
    let tested : are_digits (base_of word) (without_leading_sign (numeral_of word)) ≡ true = search rules in
    let minus : c.is_negative.result ≡ starts_with_minus (numeral_of word) = search rules in
    let size : c.magnitude.result ≡ min (digits_value (base_of word) (without_leading_sign (numeral_of word))) (2 ^ 64 - 1) = search rules in
    c.integer.ensures at ∙ ap (λ t. integer_at at (cond t (neg_ℤ (pos c.magnitude.result)) (pos c.magnitude.result))) minus
    ∙ number-signed at (base_of word) (numeral_of word) c.magnitude.result tested size
