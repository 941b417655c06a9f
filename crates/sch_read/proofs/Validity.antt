-- What a text spells is valid.
use Rattle.std.proofs.Common.{◌≡◌, ◌≤◌, ◌<◌, ◌+◌, ◌⊎◌, inl, inr, ℕ, List, [], ◌∷◌, ◌++◌, refl, sym, ◌∙◌, ap, subst, arith, Bool, true, false}
use Rattle.std.specs.Prelude.{◌==◌, ◌||◌, ◌&&◌, if◌then◌else◌, drop, codes}
use Rattle.std.specs.List.{list_all}
use Rattle.std.proofs.lemmas.Bool.{cases_lt}
use Rattle.std.proofs.lemmas.Bool.Decides.{nat_tests}
use Rattle.std.specs.Char.{to_ascii_lowercase, is_ascii_alphabetic}
use Rattle.std.specs.Str.{bytes_eq}
use Rattle.sch_read.specs.Lexer.Letters.{folded, is_initial, is_subsequent}
use Rattle.std.proofs.lemmas.Slice.Eq.{bytes_eq-Decides}
use Rattle.std.proofs.lemmas.Str.Ascii.{lowercase-lowercase}
use Rattle.std.specs.Str.Parse.{without_leading_sign, signed_digits_value}
use Rattle.std.proofs.Common.{length}
use Rattle.sch_word.proofs.facts.Booleans.{and_parts, and_of, or_left}
use Rattle.sch_read.specs.Lexer.Letters.{is_white}
use Rattle.sch_read.specs.Lexer.Lexeme.{is_empty}
use Rattle.sch_read.specs.Lexer.Numerals.{is_number_like, are_digits, base_of, numeral_of}
use Rattle.sch_read.specs.Lexer.Identifiers.{is_identifier}
use Rattle.sch_read.specs.Lexer.Token.{token_at, word_at, name_at, number_at, integer_at, character_at, string_at, string_of, Content, Whole, Unended, NoEscape, content, is_character}
use Rattle.sch_word.specs.values.Fixnum.{is_fixnum}
use Rattle.sch_read.specs.Grammar.{Token, Open, Close, Dot, Plain, Huge, Bad, parenthesis, hash_parenthesis, quote_mark, bad_token, bad_number, boolean, integer, character, symbol, Datum, Data, atom, list, dotted, vector, none, cons, join, with_tail, ReadsOne, ReadsMany, plain, listed, with_dot, elements, quotes, end, more}
use Rattle.sch_read.specs.Lexer.Cut.{Cuts, nothing, lexeme}
use Rattle.sch_read.specs.Text.{max_nesting, Spells}
use Rattle.sch_read.specs.Valid.{IsValidAtom, IsValid, AreValid}

-- a letter's lower case is a letter, and no other byte changes
lower-cases : (c : ℕ) → (to_ascii_lowercase c ≡ c) ⊎ (is_ascii_alphabetic (to_ascii_lowercase c) ≡ true)
lower-cases c = go (cases_lt c 65) (cases_lt c 91)
  where
    go : (c < 65) ⊎ (65 ≤ c) → (c < 91) ⊎ (91 ≤ c) → (to_ascii_lowercase c ≡ c) ⊎ (is_ascii_alphabetic (to_ascii_lowercase c) ≡ true)
    go (inl h) k = inl (grind (arith, nat_tests))
    go (inr h) (inl k) = inr (grind (arith, nat_tests))
    go (inr h) (inr k) = inl (grind (arith, nat_tests))

pub or-parts : (a b : Bool) → a || b ≡ true → (a ≡ true) ⊎ (b ≡ true)
or-parts true b h = inl refl
or-parts false b h = inr h

initial-lower : (c : ℕ) → is_initial c ≡ true → is_initial (to_ascii_lowercase c) ≡ true
initial-lower c h = go (lower-cases c)
  where
    go : (to_ascii_lowercase c ≡ c) ⊎ (is_ascii_alphabetic (to_ascii_lowercase c) ≡ true) → is_initial (to_ascii_lowercase c) ≡ true
    go (inl e) = ap is_initial e ∙ h
    go (inr e) = or_left (is_ascii_alphabetic (to_ascii_lowercase c)) _ e

subsequent-lower : (c : ℕ) → is_subsequent c ≡ true → is_subsequent (to_ascii_lowercase c) ≡ true
subsequent-lower c h = go (lower-cases c)
  where
    go : (to_ascii_lowercase c ≡ c) ⊎ (is_ascii_alphabetic (to_ascii_lowercase c) ≡ true) → is_subsequent (to_ascii_lowercase c) ≡ true
    go (inl e) = ap is_subsequent e ∙ h
    go (inr e) = or_left (is_initial (to_ascii_lowercase c)) _ (or_left (is_ascii_alphabetic (to_ascii_lowercase c)) _ e)

all-subsequent-lower : (bs : List ℕ) → list_all is_subsequent bs ≡ true → list_all is_subsequent (folded bs) ≡ true
all-subsequent-lower [] h = refl
all-subsequent-lower (b ∷ bs) h =
    let p = and_parts (is_subsequent b) (list_all is_subsequent bs) h in
    and_of (is_subsequent (to_ascii_lowercase b)) (list_all is_subsequent (folded bs)) (subsequent-lower b p.0) (all-subsequent-lower bs p.1)

pub folded-folded : (bs : List ℕ) → folded (folded bs) ≡ folded bs
folded-folded [] = refl
folded-folded (b ∷ bs) = ap (λ v. v ∷ folded (folded bs)) (lowercase-lowercase b) ∙ ap (λ v. to_ascii_lowercase b ∷ v) (folded-folded bs)

peculiar-folded : (w : List ℕ) → bytes_eq w (codes "+") || (bytes_eq w (codes "-") || bytes_eq w (codes "...")) ≡ true → is_identifier (folded w) ≡ true
peculiar-folded w h = go (or-parts (bytes_eq w (codes "+")) _ h)
  where
    last : (bytes_eq w (codes "-") ≡ true) ⊎ (bytes_eq w (codes "...") ≡ true) → is_identifier (folded w) ≡ true
    last (inl e) = ap (λ v. is_identifier (folded v)) ((bytes_eq-Decides w (codes "-")).0 e)
    last (inr e) = ap (λ v. is_identifier (folded v)) ((bytes_eq-Decides w (codes "...")).0 e)

    go : (bytes_eq w (codes "+") ≡ true) ⊎ (bytes_eq w (codes "-") || bytes_eq w (codes "...") ≡ true) → is_identifier (folded w) ≡ true
    go (inl e) = ap (λ v. is_identifier (folded v)) ((bytes_eq-Decides w (codes "+")).0 e)
    go (inr e) = last (or-parts (bytes_eq w (codes "-")) _ e)

-- an identifier in lower case is one
pub identifier-folded : (w : List ℕ) → is_identifier w ≡ true → is_identifier (folded w) ≡ true
identifier-folded [] h = cc
identifier-folded (b ∷ bs) h = go (or-parts (is_initial b && list_all is_subsequent bs) _ h)
  where
    go : (is_initial b && list_all is_subsequent bs ≡ true) ⊎ (bytes_eq (b ∷ bs) (codes "+") || (bytes_eq (b ∷ bs) (codes "-") || bytes_eq (b ∷ bs) (codes "...")) ≡ true) →
        is_identifier (folded (b ∷ bs)) ≡ true
    go (inl e) =
        let p = and_parts (is_initial b) (list_all is_subsequent bs) e in
        or_left _ _ (and_of (is_initial (to_ascii_lowercase b)) (list_all is_subsequent (folded bs)) (initial-lower b p.0) (all-subsequent-lower bs p.1))
    go (inr e) = peculiar-folded (b ∷ bs) e

-- tokens whose symbols are valid
abbrev pub IsValidToken : Token → Type 0
IsValidToken (Open at o) = Unit {0}
IsValidToken (Close at) = Unit {0}
IsValidToken (Dot at) = Unit {0}
IsValidToken (Plain at a) = IsValidAtom a
IsValidToken (Huge at) = Unit {0}
IsValidToken (Bad at f) = Unit {0}

abbrev pub AreValidTokens : List Token → Type 0
AreValidTokens [] = Unit {0}
AreValidTokens (t ∷ ts) = IsValidToken t × AreValidTokens ts

valid-if : (t : Bool) (a b : Token) → (t ≡ true → IsValidToken a) → IsValidToken b → IsValidToken (if t then a else b)
valid-if true a b h k = h refl
valid-if false a b h k = k

valids-if : (t : Bool) (a b : List Token) → AreValidTokens a → AreValidTokens b → AreValidTokens (if t then a else b)
valids-if true a b h k = h
valids-if false a b h k = k

valid-string : (at : ℕ) (c : Content) → IsValidToken (string_of at c)
valid-string at (Whole bs) = tt
valid-string at Unended = tt
valid-string at (NoEscape p) = tt

valid-number : (at base : ℕ) (numeral : List ℕ) → IsValidToken (number_at at base numeral)
valid-number at base numeral =
    valid-if (are_digits base (without_leading_sign numeral)) (integer_at at (signed_digits_value base numeral)) (Bad at bad_number)
    (λ h. valid-if (is_fixnum (signed_digits_value base numeral)) (Plain at (integer (signed_digits_value base numeral))) (Huge at) (λ k. tt) tt) tt

valid-character : (at : ℕ) (rest : List ℕ) → IsValidToken (character_at at rest)
valid-character at [] = tt
valid-character at (b ∷ bs) =
    valid-if (is_empty bs) (Plain at (character b)) _ (λ h. tt)
    (valid-if (bytes_eq (folded (b ∷ bs)) (codes "space")) (Plain at (character 32)) _ (λ h. tt)
    (valid-if (bytes_eq (folded (b ∷ bs)) (codes "newline")) (Plain at (character 10)) (Bad at bad_token) (λ h. tt) tt))

valid-name : (at : ℕ) (word : List ℕ) → IsValidToken (name_at at word)
valid-name at word =
    valid-if (bytes_eq word (codes ".")) (Dot at) _ (λ h. tt)
    (valid-if (bytes_eq (folded word) (codes "#t")) (Plain at (boolean true)) _ (λ h. tt)
    (valid-if (bytes_eq (folded word) (codes "#f")) (Plain at (boolean false)) _ (λ h. tt)
    (valid-if (is_identifier word) (Plain at (symbol (folded word))) (Bad at bad_token) (λ h. (identifier-folded word h, folded-folded word)) tt)))

valid-word : (at : ℕ) (word : List ℕ) → IsValidToken (word_at at word)
valid-word at word =
    valid-if (bytes_eq word (codes "#(")) (Open at hash_parenthesis) _ (λ h. tt)
    (valid-if (is_character word) (character_at at (drop 2 word)) _ (λ h. valid-character at (drop 2 word))
    (valid-if (is_number_like word) (number_at at (base_of word) (numeral_of word)) (name_at at word) (λ h. valid-number at (base_of word) (numeral_of word)) (valid-name at word)))

valid-token : (at : ℕ) (first : List ℕ) → AreValidTokens (token_at at first)
valid-token at [] = tt
valid-token at (b ∷ bs) =
    valids-if (is_white b || b == 59) [] _ tt
    (valids-if (b == 40) (Open at parenthesis ∷ []) _ (tt, tt)
    (valids-if (b == 41) (Close at ∷ []) _ (tt, tt)
    (valids-if (b == 39) (Open at quote_mark ∷ []) _ (tt, tt)
    (valids-if (b == 34) (string_at at bs ∷ []) (word_at at (b ∷ bs) ∷ []) (valid-string at (content (at + 1) bs), tt) (valid-word at (b ∷ bs), tt)))))

valid-append : (ts us : List Token) → AreValidTokens ts → AreValidTokens us → AreValidTokens (ts ++ us)
valid-append [] us h k = k
valid-append (t ∷ ts) us h k = (h.0, valid-append ts us h.1 k)

valid-cut : (at : ℕ) (bytes : List ℕ) (ts : List Token) → Cuts at bytes ts → AreValidTokens ts
valid-cut at bytes ts (nothing _) = tt
valid-cut at bytes ts (lexeme _ _ first rest us _ e h long c k) =
    subst AreValidTokens (sym k) (valid-append (token_at at first) us (valid-token at first) (valid-cut (at + length first) rest us c))

valid-join : (xs ys : Data) → AreValid xs → AreValid ys → AreValid (join xs ys)
valid-join none ys h k = k
valid-join (cons x xs) ys h k = (h.0, valid-join xs ys h.1 k)

valid-with_tail : (at : ℕ) (x : Datum) (xs : Data) (last : Datum) → AreValid (cons x xs) → IsValid last → IsValid (with_tail at (cons x xs) last)
valid-with_tail at x xs (atom p a) h k = ((λ e. cc), h, tt, k)
valid-with_tail at x xs (list p ys) h k = valid-join (cons x xs) ys h k
valid-with_tail at x xs (dotted p ys z) h k = ((λ e. cc), valid-join (cons x xs) ys h k.1, k.2, k.3)
valid-with_tail at x xs (vector p ys) h k = ((λ e. cc), h, tt, k)

mutual
  one-valid : (n : ℕ) (ts : List Token) (d : Datum) (rest : List Token) → ReadsOne n ts d rest → AreValidTokens ts → IsValid d × AreValidTokens rest
  one-valid n ts d rest (plain _ at a _) h = h
  one-valid n ts d rest (listed m at e us xs _ r) h = let k = many-valid m us xs (Close e ∷ rest) r h.1 in (k.0, k.1.1)
  one-valid n ts d rest (with_dot m at dot e us vs x xs last _ r q) h =
      let k = many-valid m us (cons x xs) (Dot dot ∷ vs) r h.1 in
      let l = one-valid m vs last (Close e ∷ rest) q k.1.1 in
      (valid-with_tail at x xs last k.0 l.0, l.1.1)
  one-valid n ts d rest (elements m at e us xs _ r) h = let k = many-valid m us xs (Close e ∷ rest) r h.1 in (k.0, k.1.1)
  one-valid n ts d rest (quotes m at us x _ r) h = let k = one-valid m us x rest r h.1 in (((refl, refl), (k.0, tt)), k.1)

  many-valid : (n : ℕ) (ts : List Token) (xs : Data) (rest : List Token) → ReadsMany n ts xs rest → AreValidTokens ts → AreValid xs × AreValidTokens rest
  many-valid n ts xs rest (end _ _) h = (tt, h)
  many-valid n ts xs rest (more _ _ us y ys _ r q) h =
      let k = one-valid n ts y us r h in
      let l = many-valid n us ys rest q k.1 in
      ((k.0, l.0), l.1)

-- what a text spells is valid
pub spelled_valid : (bytes : List ℕ) (xs : Data) → Spells bytes xs → AreValid xs
spelled_valid bytes xs (ts, cut, reads) = (many-valid max_nesting ts xs [] reads (valid-cut 0 bytes ts cut)).0
