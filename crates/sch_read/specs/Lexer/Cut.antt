-- How a text is cut into tokens: by the longest match (R5RS 2, 7.1.1).
use Rattle.std.specs.Prelude.{◌≡◌, ◌+◌, ◌++◌, ℕ, true, List, [], length}
use Rattle.sch_read.specs.Lexer.Lexeme.{is_lexeme, IsLongest}
use Rattle.sch_read.specs.Lexer.Token.{token_at}
use Rattle.sch_read.specs.Grammar.{Token}

-- `Cuts at text tokens`: the text, which stands at that place, is one lexeme after another, each the
-- longest that begins there, and the tokens are those of the lexemes
pub data Cuts : ℕ → List ℕ → List Token → Type 0 where
  nothing : (at : ℕ) → Cuts at [] []
  lexeme : (at : ℕ) (text first rest : List ℕ) (ts all : List Token) →
      text ≡ first ++ rest → is_lexeme first ≡ true → IsLongest first rest →
      Cuts (at + length first) rest ts → all ≡ token_at at first ++ ts → Cuts at text all
