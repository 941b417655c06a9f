-- Texts: the data that a text spells, and its first fault.
use Rattle.std.specs.Prelude.{ℕ, List}
use Rattle.sch_read.specs.Grammar.{Token, Data, Reads}
use Rattle.sch_read.specs.Lexer.Cut.{Cuts}
use Rattle.sch_read.specs.Fault.{Fault, IsFirstFault}

-- the most levels of lists, vectors and quotes
abbrev pub max_nesting : ℕ
max_nesting = 1000

-- the text is accepted with these data
abbrev pub Spells : List ℕ → Data → Type 0
Spells text xs = (ts : List Token) × Cuts 0 text ts × Reads max_nesting ts xs

-- the text is not accepted, and this is its first fault
abbrev pub HasFault : List ℕ → Fault → Type 0
HasFault text f = (ts : List Token) × Cuts 0 text ts × IsFirstFault max_nesting ts f
