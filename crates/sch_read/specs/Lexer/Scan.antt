-- How the code cuts a text, byte after byte: a lexeme grows as long as it stays one. No public clause
-- cites this; it is proved to be the longest match.
use Rattle.std.specs.Prelude.{◌+◌, ◌++◌, ℕ, List, [], ◌∷◌, if◌then◌else◌, length}
use Rattle.sch_read.specs.Grammar.{Token}
use Rattle.sch_read.specs.Lexer.Lexeme.{is_lexeme}
use Rattle.sch_read.specs.Lexer.Token.{token_at}

-- the tokens from a lexeme on, of which a first part was met
abbrev pub scan : ℕ → List ℕ → List ℕ → List Token
scan start part [] = token_at start part
scan start part (b ∷ bs) =
    if is_lexeme (part ++ b ∷ []) then scan start (part ++ b ∷ []) bs
    else token_at start part ++ scan (start + length part) (b ∷ []) bs
