-- Data weigh at most seven times the bytes of their text.
use Rattle.std.proofs.Common.{◌≡◌, ◌≤◌, ◌+◌, ◌*◌, ℕ, suc, List, [], ◌∷◌, ◌++◌, length, refl, ◌∙◌, ap, arith, Bool, true, false, length-append}
use Rattle.std.specs.Prelude.{◌==◌, ◌||◌, if◌then◌else◌, drop, codes}
use Rattle.std.specs.Str.{bytes_eq}
use Rattle.sch_read.specs.Grammar.{Token, Open, Close, Dot, Plain, Huge, Bad, parenthesis, hash_parenthesis, quote_mark, bad_token, bad_number, boolean, integer, character, symbol, Datum, Data, atom, list, dotted, vector, none, cons, join, with_tail, ReadsOne, ReadsMany, plain, listed, with_dot, elements, quotes, end, more}
use Rattle.sch_read.specs.Lexer.Letters.{folded, is_white}
use Rattle.sch_read.specs.Lexer.Numerals.{is_number_like, are_digits, base_of, numeral_of}
use Rattle.sch_read.specs.Lexer.Identifiers.{is_identifier}
use Rattle.sch_read.specs.Lexer.Letters.{escaped, is_escape}
use Rattle.sch_read.specs.Lexer.Token.{token_at, word_at, name_at, number_at, integer_at, character_at, string_at, string_of, Content, Whole, Unended, NoEscape, with_byte, content, escape_content, is_character}
use Rattle.sch_word.specs.values.Fixnum.{is_fixnum}
use Rattle.std.specs.Str.Parse.{without_leading_sign, signed_digits_value}
use Rattle.sch_read.specs.Lexer.Lexeme.{is_empty}
use Rattle.sch_read.specs.Lexer.Cut.{Cuts, nothing, lexeme}
use Rattle.sch_read.specs.Text.{max_nesting, Spells}
use Rattle.sch_read.specs.Valid.{bytes_in, weight, weights}

-- what a token adds to the weight
abbrev pub load : Token → ℕ
load (Open at parenthesis) = 1
load (Open at hash_parenthesis) = 1
load (Open at quote_mark) = 7
load (Close at) = 0
load (Dot at) = 0
load (Plain at a) = 1 + bytes_in a
load (Huge at) = 0
load (Bad at f) = 0

abbrev pub loads : List Token → ℕ
loads [] = 0
loads (t ∷ ts) = load t + loads ts

loads-append : (ts us : List Token) → loads (ts ++ us) ≡ loads ts + loads us
loads-append [] us = omega arith
loads-append (t ∷ ts) us = let e = loads-append ts us in omega arith

weights-join : (xs ys : Data) → weights (join xs ys) ≡ weights xs + weights ys
weights-join none ys = omega arith
weights-join (cons x xs) ys = let e = weights-join xs ys in omega arith

weight-with_tail : (at : ℕ) (xs : Data) (last : Datum) → weight (with_tail at xs last) ≤ 1 + weights xs + weight last
weight-with_tail at xs (atom p a) = omega arith
weight-with_tail at xs (list p ys) = let e = weights-join xs ys in omega arith
weight-with_tail at xs (dotted p ys z) = let e = weights-join xs ys in omega arith
weight-with_tail at xs (vector p ys) = omega arith

mutual
  one-weighs : (n : ℕ) (ts : List Token) (d : Datum) (rest : List Token) → ReadsOne n ts d rest → weight d + loads rest ≤ loads ts
  one-weighs n ts d rest (plain _ at a _) = omega arith
  one-weighs n ts d rest (listed m at e us xs _ r) = let h = many-weighs m us xs (Close e ∷ rest) r in omega arith
  one-weighs n ts d rest (with_dot m at dot e us vs x xs last _ r q) =
      let h = many-weighs m us (cons x xs) (Dot dot ∷ vs) r in
      let k = one-weighs m vs last (Close e ∷ rest) q in
      let w = weight-with_tail at (cons x xs) last in omega arith
  one-weighs n ts d rest (elements m at e us xs _ r) = let h = many-weighs m us xs (Close e ∷ rest) r in omega arith
  one-weighs n ts d rest (quotes m at us x _ r) = let h = one-weighs m us x rest r in omega arith

  many-weighs : (n : ℕ) (ts : List Token) (xs : Data) (rest : List Token) → ReadsMany n ts xs rest → weights xs + loads rest ≤ loads ts
  many-weighs n ts xs rest (end _ _) = omega arith
  many-weighs n ts xs rest (more _ _ us y ys _ r q) =
      let h = one-weighs n ts y us r in
      let k = many-weighs n us ys rest q in omega arith

abbrev size : Content → ℕ
size (Whole bs) = length bs
size Unended = 0
size (NoEscape at) = 0

size-with_byte : (b : ℕ) (c : Content) → size (with_byte b c) ≤ 1 + size c
size-with_byte b (Whole bs) = omega arith
size-with_byte b Unended = omega arith
size-with_byte b (NoEscape at) = omega arith

size-if : (t : Bool) (a b : Content) (n : ℕ) → size a ≤ n → size b ≤ n → size (if t then a else b) ≤ n
size-if true a b n h k = h
size-if false a b n h k = k

mutual
  size-content : (at : ℕ) (bs : List ℕ) → size (content at bs) ≤ length bs
  size-content at [] = omega arith
  size-content at (b ∷ bs) =
      let e = size-escape at bs in
      let c = size-content (at + 1) bs in
      let w = size-with_byte b (content (at + 1) bs) in
      size-if (b == 34) (Whole []) (if b == 92 then escape_content at bs else with_byte b (content (at + 1) bs)) (length (b ∷ bs)) (omega arith)
      (size-if (b == 92) (escape_content at bs) (with_byte b (content (at + 1) bs)) (length (b ∷ bs)) (omega arith) (omega arith))

  size-escape : (at : ℕ) (bs : List ℕ) → size (escape_content at bs) ≤ length bs
  size-escape at [] = omega arith
  size-escape at (b ∷ bs) =
      let c = size-content (at + 2) bs in
      let w = size-with_byte (escaped b) (content (at + 2) bs) in
      size-if (is_escape b) (with_byte (escaped b) (content (at + 2) bs)) (NoEscape at) (length (b ∷ bs)) (omega arith) (omega arith)

load-string : (at : ℕ) (c : Content) → load (string_of at c) ≤ 1 + size c
load-string at (Whole bs) = omega arith
load-string at Unended = omega arith
load-string at (NoEscape p) = omega arith

load-if : (t : Bool) (a b : Token) (n : ℕ) → load a ≤ n → load b ≤ n → load (if t then a else b) ≤ n
load-if true a b n h k = h
load-if false a b n h k = k

loads-if : (t : Bool) (a b : List Token) (n : ℕ) → loads a ≤ n → loads b ≤ n → loads (if t then a else b) ≤ n
loads-if true a b n h k = h
loads-if false a b n h k = k

length-folded : (bs : List ℕ) → length (folded bs) ≡ length bs
length-folded [] = refl
length-folded (b ∷ bs) = ap suc (length-folded bs)

load-number : (at base : ℕ) (numeral : List ℕ) → load (number_at at base numeral) ≤ 1
load-number at base numeral =
    load-if (are_digits base (without_leading_sign numeral)) (integer_at at (signed_digits_value base numeral)) (Bad at bad_number) 1
    (load-if (is_fixnum (signed_digits_value base numeral)) (Plain at (integer (signed_digits_value base numeral))) (Huge at) 1 (omega arith) (omega arith)) (omega arith)

load-character : (at : ℕ) (rest : List ℕ) → load (character_at at rest) ≤ 1
load-character at [] = omega arith
load-character at (b ∷ bs) =
    load-if (is_empty bs) (Plain at (character b)) _ 1 (omega arith)
    (load-if (bytes_eq (folded (b ∷ bs)) (codes "space")) (Plain at (character 32)) _ 1 (omega arith)
    (load-if (bytes_eq (folded (b ∷ bs)) (codes "newline")) (Plain at (character 10)) (Bad at bad_token) 1 (omega arith) (omega arith)))

load-name : (at : ℕ) (word : List ℕ) → load (name_at at word) ≤ 1 + length word
load-name at word =
    let same = length-folded word in
    load-if (bytes_eq word (codes ".")) (Dot at) _ (1 + length word) (omega arith)
    (load-if (bytes_eq (folded word) (codes "#t")) (Plain at (boolean true)) _ (1 + length word) (omega arith)
    (load-if (bytes_eq (folded word) (codes "#f")) (Plain at (boolean false)) _ (1 + length word) (omega arith)
    (load-if (is_identifier word) (Plain at (symbol (folded word))) (Bad at bad_token) (1 + length word) (omega arith) (omega arith))))

load-word : (at : ℕ) (word : List ℕ) → load (word_at at word) ≤ 1 + length word
load-word at word =
    let c = load-character at (drop 2 word) in
    let n = load-number at (base_of word) (numeral_of word) in
    load-if (bytes_eq word (codes "#(")) (Open at hash_parenthesis) _ (1 + length word) (omega arith)
    (load-if (is_character word) (character_at at (drop 2 word)) _ (1 + length word) (omega arith)
    (load-if (is_number_like word) (number_at at (base_of word) (numeral_of word)) (name_at at word) (1 + length word) (omega arith) (load-name at word)))

loads-token : (at : ℕ) (first : List ℕ) → loads (token_at at first) ≤ 7 * length first
loads-token at [] = omega arith
loads-token at (b ∷ bs) =
    let s = load-string at (content (at + 1) bs) in
    let c = size-content (at + 1) bs in
    let w = load-word at (b ∷ bs) in
    let n = 7 * length (b ∷ bs) in
    loads-if (is_white b || b == 59) [] _ n (omega arith)
    (loads-if (b == 40) (Open at parenthesis ∷ []) _ n (omega arith)
    (loads-if (b == 41) (Close at ∷ []) _ n (omega arith)
    (loads-if (b == 39) (Open at quote_mark ∷ []) _ n (omega arith)
    (loads-if (b == 34) (string_at at bs ∷ []) (word_at at (b ∷ bs) ∷ []) n (omega arith) (omega arith)))))

loads-cut : (at : ℕ) (bytes : List ℕ) (ts : List Token) → Cuts at bytes ts → loads ts ≤ 7 * length bytes
loads-cut at bytes ts (nothing _) = omega arith
loads-cut at bytes ts (lexeme _ _ first rest us _ e h long c k) =
    let t = loads-token at first in
    let r = loads-cut (at + length first) rest us c in
    let a = ap loads k ∙ loads-append (token_at at first) us in
    let b = ap length e ∙ length-append first rest in
    omega arith

-- what a text spells weighs at most seven times its bytes
pub spelled_weighs : (bytes : List ℕ) (xs : Data) → Spells bytes xs → weights xs ≤ 7 * length bytes
spelled_weighs bytes xs (ts, cut, reads) =
    let h = many-weighs max_nesting ts xs [] reads in
    let k = loads-cut 0 bytes ts cut in
    omega arith
