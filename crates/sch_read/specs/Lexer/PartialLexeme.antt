-- Where the code stands in a text: in a lexeme, of which a part was met.
use Rattle.std.specs.Prelude.{◌≤◌, ℕ, List, drop, slice_range}
use Rattle.sch_read.specs.Grammar.{Token}
use Rattle.sch_read.specs.Lexer.Scan.{scan}
use Rattle.sch_read.specs.Lexer.Stages.{IsAtStage}
use Rattle.sch_read.specs.declared.reader.Lexeme.{Lexeme}

-- the lexeme was met up to an index
pub record IsMet (text : List ℕ) (i : ℕ) (lexeme : Lexeme) : Type 0 where
  pub before : lexeme.start ≤ i
  pub at_stage : IsAtStage lexeme.stage (slice_range text lexeme.start i)

-- the tokens that are left there
abbrev pub left : List ℕ → ℕ → Lexeme → List Token
left text i lexeme = scan lexeme.start (slice_range text lexeme.start i) (drop i text)
