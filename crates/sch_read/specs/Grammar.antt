-- Tokens, data, and the tokens that spell data (R5RS 7.1.2).
use Rattle.std.specs.Prelude.{ℕ, ℤ, Bool, suc, List, [], ◌∷◌, codes}

pub data Atom : Type 0 where
  boolean : Bool → Atom
  integer : ℤ → Atom
  character : ℕ → Atom
  text : List ℕ → Atom
  symbol : List ℕ → Atom

pub data Opener : Type 0 where
  parenthesis : Opener
  hash_parenthesis : Opener
  quote_mark : Opener

pub data Flaw : Type 0 where
  bad_token : Flaw
  bad_number : Flaw
  bad_string : Flaw

-- A token, with the place of its first byte. A Huge one is an integer that is no fixnum. What is no
-- token is a Bad one, with the place of its fault.
pub data Token : Type 0 where
  Open : ℕ → Opener → Token
  Close : ℕ → Token
  Dot : ℕ → Token
  Plain : ℕ → Atom → Token
  Huge : ℕ → Token
  Bad : ℕ → Flaw → Token

-- A datum has the place of its first byte, and a dotted one also the datum after its dot.
mutual
  pub data Datum : Type 0 where
    atom : ℕ → Atom → Datum
    list : ℕ → Data → Datum
    dotted : ℕ → Data → Datum → Datum
    vector : ℕ → Data → Datum

  pub data Data : Type 0 where
    none : Data
    cons : Datum → Data → Data

abbrev pub join : Data → Data → Data
join none ys = ys
join (cons x xs) ys = cons x (join xs ys)

abbrev pub one : Datum → Data
one d = cons d none

-- `'x` is `(quote x)`, and both the list and the symbol stand at the quote mark
abbrev pub quoted : ℕ → Datum → Datum
quoted at d = list at (cons (atom at (symbol (codes "quote"))) (one d))

-- a list with a datum after its dot; `(a . (b c))` is `(a b c)`
abbrev pub with_tail : ℕ → Data → Datum → Datum
with_tail at xs (atom p a) = dotted at xs (atom p a)
with_tail at xs (list p ys) = list at (join xs ys)
with_tail at xs (dotted p ys z) = dotted at (join xs ys) z
with_tail at xs (vector p ys) = dotted at xs (vector p ys)

-- `ReadsOne n tokens d rest`: the tokens before the rest spell d, in at most n levels. Each
-- parenthesis and each quote mark opens a level.
mutual
  pub data ReadsOne : ℕ → List Token → Datum → List Token → Type 0 where
    plain : (n at : ℕ) (a : Atom) (rest : List Token) → ReadsOne n (Plain at a ∷ rest) (atom at a) rest
    listed : (n at end : ℕ) (ts : List Token) (xs : Data) (rest : List Token) →
        ReadsMany n ts xs (Close end ∷ rest) → ReadsOne (suc n) (Open at parenthesis ∷ ts) (list at xs) rest
    with_dot : (n at dot end : ℕ) (ts us : List Token) (x : Datum) (xs : Data) (last : Datum) (rest : List Token) →
        ReadsMany n ts (cons x xs) (Dot dot ∷ us) → ReadsOne n us last (Close end ∷ rest) →
        ReadsOne (suc n) (Open at parenthesis ∷ ts) (with_tail at (cons x xs) last) rest
    elements : (n at end : ℕ) (ts : List Token) (xs : Data) (rest : List Token) →
        ReadsMany n ts xs (Close end ∷ rest) → ReadsOne (suc n) (Open at hash_parenthesis ∷ ts) (vector at xs) rest
    quotes : (n at : ℕ) (ts : List Token) (x : Datum) (rest : List Token) →
        ReadsOne n ts x rest → ReadsOne (suc n) (Open at quote_mark ∷ ts) (quoted at x) rest

  pub data ReadsMany : ℕ → List Token → Data → List Token → Type 0 where
    end : (n : ℕ) (rest : List Token) → ReadsMany n rest none rest
    more : (n : ℕ) (ts us : List Token) (x : Datum) (xs : Data) (rest : List Token) →
        ReadsOne n ts x us → ReadsMany n us xs rest → ReadsMany n ts (cons x xs) rest

-- the tokens spell the data
abbrev pub Reads : ℕ → List Token → Data → Type 0
Reads n ts xs = ReadsMany n ts xs []
