-- The first fault of tokens that are not accepted, by what can follow.
use Rattle.std.specs.Prelude.{◌≡◌, ◌⊎◌, ℕ, List, [], ◌∷◌, ◌++◌}
use Rattle.sch_read.specs.Grammar.{Token, Open, Close, Dot, Plain, Huge, Bad, Opener, parenthesis, hash_parenthesis, quote_mark, Flaw, bad_token, Atom, Data, Reads}

-- a fault and its place; a Flawed one is a bad token, number or string
pub data Fault : Type 0 where
  Unclosed : ℕ → Fault
  StrayClose : ℕ → Fault
  DeepNesting : ℕ → Fault
  LiteralRange : ℕ → Fault
  Flawed : ℕ → Flaw → Fault

abbrev pub AreAccepted : ℕ → List Token → Type 0
AreAccepted n ts = (xs : Data) × Reads n ts xs

-- the tokens begin some tokens that are accepted
abbrev pub Begins : ℕ → List Token → Type 0
Begins n ts = (rest : List Token) × AreAccepted n (ts ++ rest)

-- after these tokens an atom can follow
abbrev pub TakesAtom : ℕ → List Token → Type 0
TakesAtom n ts = (at : ℕ) × (a : Atom) × Begins n (ts ++ Plain at a ∷ [])

-- Which fault it is where a token cannot follow: its own flaw; a close is stray where all before it is
-- whole; where an atom could follow, an integer is out of range, and an opener is too deep; else it is a
-- token that may not stand there.
abbrev pub IsFaultOf : Type 0 → Type 0 → Token → Fault → Type 0
IsFaultOf Whole Takes (Bad p flaw) f = f ≡ Flawed p flaw
IsFaultOf Whole Takes (Close p) f = (Whole × (f ≡ StrayClose p)) ⊎ (¬ Whole × (f ≡ Flawed p bad_token))
IsFaultOf Whole Takes (Dot p) f = f ≡ Flawed p bad_token
IsFaultOf Whole Takes (Plain p a) f = f ≡ Flawed p bad_token
IsFaultOf Whole Takes (Huge p) f = (Takes × (f ≡ LiteralRange p)) ⊎ (¬ Takes × (f ≡ Flawed p bad_token))
IsFaultOf Whole Takes (Open p o) f = (Takes × (f ≡ DeepNesting p)) ⊎ (¬ Takes × (f ≡ Flawed p bad_token))

-- a token cannot follow: those before it begin some accepted tokens, and with it they begin none
pub record CannotFollow (n : ℕ) (ts : List Token) (f : Fault) : Type 0 where
  pub front : List Token
  pub token : Token
  pub rest : List Token
  pub whole : ts ≡ front ++ token ∷ rest
  pub begins : Begins n front
  pub stuck : ¬ Begins n (front ++ token ∷ [])
  pub kind : IsFaultOf (AreAccepted n front) (TakesAtom n front) token f

-- what is open: a list or a vector, or a quote that waits for its datum, by its place
pub data Mark : Type 0 where
  open_list : ℕ → Mark
  open_quote : ℕ → Mark

abbrev pub place : Mark → ℕ
place (open_list p) = p
place (open_quote p) = p

-- a datum is whole, and so are the quotes that waited for it
abbrev pub settled : List Mark → List Mark
settled [] = []
settled (open_list p ∷ ms) = open_list p ∷ ms
settled (open_quote p ∷ ms) = settled ms

abbrev pub closed : List Mark → List Mark
closed [] = []
closed (m ∷ ms) = settled ms

abbrev pub mark_of : ℕ → Opener → Mark
mark_of p parenthesis = open_list p
mark_of p hash_parenthesis = open_list p
mark_of p quote_mark = open_quote p

-- what is open after one more token, the innermost first
abbrev pub opened : List Mark → Token → List Mark
opened ms (Open p o) = mark_of p o ∷ ms
opened ms (Plain p a) = settled ms
opened ms (Close p) = closed ms
opened ms (Dot p) = ms
opened ms (Huge p) = ms
opened ms (Bad p f) = ms

abbrev pub open_after : List Mark → List Token → List Mark
open_after ms [] = ms
open_after ms (t ∷ ts) = open_after (opened ms t) ts

-- the innermost of what is open stands there
abbrev pub IsInnermost : List Mark → ℕ → Type 0
IsInnermost [] at = ⊥
IsInnermost (m ∷ ms) at = place m ≡ at

-- each token can follow, and the tokens are not whole
pub record IsCutShort (n : ℕ) (ts : List Token) (f : Fault) : Type 0 where
  pub begins : Begins n ts
  pub refused : ¬ AreAccepted n ts
  pub at : ℕ
  pub kind : f ≡ Unclosed at
  pub innermost : IsInnermost (open_after [] ts) at

abbrev pub IsFirstFault : ℕ → List Token → Fault → Type 0
IsFirstFault n ts f = CannotFollow n ts f ⊎ IsCutShort n ts f
