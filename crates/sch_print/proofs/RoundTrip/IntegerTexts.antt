-- Integers are read back.
use Rattle.std.proofs.Common.{◌≡◌, ◌^◌, ◌<◌, ℕ, suc, List, [], ◌∷◌, length, refl, ◌∙◌, ap, arith, true, false}
use Rattle.std.specs.Prelude.{◌==◌, ◌||◌, ◌&&◌, drop, codes, ℤ, pos, negsuc, neg_ℤ, nat_lt, slice_index, decimal, cond}
use Rattle.std.specs.List.{list_all}
use Rattle.std.specs.Char.{is_ascii_digit, digit_value, to_ascii_lowercase}
use Rattle.std.specs.Str.{bytes_eq}
use Rattle.std.specs.Str.Parse.{AllDigits, digits_value, without_leading_sign, signed_digits_value}
use Rattle.std.proofs.lemmas.Fmt.{decimal_is_IsNumeral}
use Rattle.std.proofs.lemmas.Bool.Decides.{nat_tests}
use Rattle.sch_word.specs.trees.NumberSets.{has}
use Rattle.sch_read.specs.Lexer.Letters.{is_word_byte}
use Rattle.sch_read.specs.Grammar.{integer}
use Rattle.sch_read.specs.Lexer.Numerals.{are_digits, numeral_of, is_number_like, has_base}
use Rattle.sch_read.specs.Lexer.Token.{word_at, number_at, integer_at, is_character}
use Rattle.sch_word.specs.values.Fixnum.{is_fixnum}
use Rattle.sch_print.specs.Printed.{atom_text}
use Rattle.sch_word.proofs.facts.Booleans.{and_parts, and_of, or_left}
use Rattle.sch_print.proofs.RoundTrip.AtomTexts.{IsAtomText, plain-digit, skip, word-atom, no-mark}
use Rattle.sch_print.proofs.RoundTrip.NameTexts.{other-start, taken}

digit-is : (c : ℕ) → digit_value c < 10 → is_ascii_digit c ≡ true
digit-is c h = grind (arith, nat_tests)

digit-small : (c : ℕ) → digit_value c < 10 → nat_lt (digit_value c) 10 ≡ true
digit-small c h = grind (arith, nat_tests)

digit-no-sign : (c : ℕ) → digit_value c < 10 → ((c == 45) ≡ false) × ((c == 43) ≡ false)
digit-no-sign c h = (grind (arith, nat_tests), grind (arith, nat_tests))

digits-test : (ds : List ℕ) → AllDigits 10 ds → list_all (λ c. nat_lt (digit_value c) 10) ds ≡ true
digits-test [] h = refl
digits-test (d ∷ ds) h = and_of (nat_lt (digit_value d) 10) (list_all (λ c. nat_lt (digit_value c) 10) ds) (digit-small d h.0) (digits-test ds h.1)

digits-word : (ds : List ℕ) → AllDigits 10 ds → list_all is_word_byte ds ≡ true
digits-word [] h = refl
digits-word (d ∷ ds) h = and_of (is_word_byte d) (list_all is_word_byte ds) (and_parts (is_word_byte d) _ (plain-digit d (digit-is d h.0))).0 (digits-word ds h.1)

positive-small : (n : ℕ) → is_fixnum (pos n) ≡ true → n < 2 ^ 64
positive-small n h = grind (arith, nat_tests)

negative-small : (n : ℕ) → is_fixnum (negsuc n) ≡ true → suc n < 2 ^ 64
negative-small n h = grind (arith, nat_tests)

no-base : (d : ℕ) (ds : List ℕ) → (d == 35) ≡ false → has_base (d ∷ ds) ≡ false
no-base d ds h = ap (λ t. t && has (to_ascii_lowercase (slice_index (d ∷ ds) 1)) (codes "bodx")) h

unsigned : (d : ℕ) (ds : List ℕ) → digit_value d < 10 → without_leading_sign (d ∷ ds) ≡ d ∷ ds
unsigned d ds h =
    let s = digit-no-sign d h in
    skip (d == 45) _ _ s.0 ∙ ap (λ t. drop (cond t 1 0) (d ∷ ds)) s.1

unsigned-value : (d : ℕ) (ds : List ℕ) → digit_value d < 10 → signed_digits_value 10 (d ∷ ds) ≡ pos (digits_value 10 (d ∷ ds))
unsigned-value d ds h = skip (d == 45) _ _ (digit-no-sign d h).0 ∙ ap (λ v. pos (digits_value 10 v)) (unsigned d ds h)

digits-number : (at d : ℕ) (ds : List ℕ) → AllDigits 10 (d ∷ ds) → word_at at (d ∷ ds) ≡ integer_at at (pos (digits_value 10 (d ∷ ds)))
digits-number at d ds h =
    let w = d ∷ ds in
    let digit = digit-is d h.0 in
    let m = no-mark d (plain-digit d digit) in
    let base = no-base d ds m.hash in
    skip (bytes_eq w (codes "#(")) _ _ (other-start d 35 ds (40 ∷ []) m.hash)
    ∙ skip (is_character w) _ _ (ap (λ t. t && slice_index w 1 == 92) m.hash)
    ∙ taken (is_number_like w) _ _ (ap (λ t. t || (is_ascii_digit d || (has d (codes "+-.") && is_ascii_digit (slice_index w 1)))) base ∙ or_left (is_ascii_digit d) _ digit)
    ∙ ap (λ n. number_at at n (numeral_of w)) (skip (has_base w) _ _ base)
    ∙ ap (number_at at 10) (skip (has_base w) _ _ base)
    ∙ taken (are_digits 10 (without_leading_sign w)) _ _ (ap (are_digits 10) (unsigned d ds h.0) ∙ digits-test w h)
    ∙ ap (integer_at at) (unsigned-value d ds h.0)

minus-number : (at d : ℕ) (ds : List ℕ) → AllDigits 10 (d ∷ ds) → word_at at (45 ∷ d ∷ ds) ≡ integer_at at (neg_ℤ (pos (digits_value 10 (d ∷ ds))))
minus-number at d ds h =
    taken (is_number_like (45 ∷ d ∷ ds)) _ _ (digit-is d h.0)
    ∙ taken (are_digits 10 (d ∷ ds)) _ _ (digits-test (d ∷ ds) h)

positive-text : (n : ℕ) (ds : List ℕ) → is_fixnum (pos n) ≡ true → (0 < length ds) × AllDigits 10 ds → digits_value 10 ds ≡ n → IsAtomText (integer (pos n)) ds
positive-text n [] fix h e = absurd (omega (arith, h.0))
positive-text n (d ∷ ds) fix h e =
    word-atom d ds (integer (pos n)) (plain-digit d (digit-is d h.1.0)) (digits-word ds h.1.1)
    (λ at. digits-number at d ds h.1 ∙ ap (λ v. integer_at at (pos v)) e ∙ taken (is_fixnum (pos n)) _ _ fix)

negative-text : (n : ℕ) (ds : List ℕ) → is_fixnum (negsuc n) ≡ true → (0 < length ds) × AllDigits 10 ds → digits_value 10 ds ≡ suc n → IsAtomText (integer (negsuc n)) (45 ∷ ds)
negative-text n [] fix h e = absurd (omega (arith, h.0))
negative-text n (d ∷ ds) fix h e =
    word-atom 45 (d ∷ ds) (integer (negsuc n)) refl (digits-word (d ∷ ds) h.1)
    (λ at. minus-number at d ds h.1 ∙ ap (λ v. integer_at at (neg_ℤ (pos v))) e ∙ taken (is_fixnum (negsuc n)) _ _ fix)

pub integer-text : (z : ℤ) → is_fixnum z ≡ true → IsAtomText (integer z) (atom_text (integer z))
integer-text (pos n) fix = let d = decimal_is_IsNumeral n (positive-small n fix) in positive-text n (decimal n) fix d.0 d.1
integer-text (negsuc n) fix = let d = decimal_is_IsNumeral (suc n) (negative-small n fix) in negative-text n (decimal (suc n)) fix d.0 d.1
