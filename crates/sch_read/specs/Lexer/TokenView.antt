-- What the tokens of the code stand for, in the grammar's words.
use Rattle.std.specs.Prelude.{ℕ, List, [], ◌∷◌, Option, Some, None}
use Rattle.sch_read.specs.Grammar.{parenthesis, hash_parenthesis, quote_mark, bad_token, bad_number, bad_string}
use Rattle.sch_read.specs.Grammar as grammar
use Rattle.sch_read.specs.Views.{atom_of}
use Rattle.sch_read.specs.declared.token.Opener.{Opener}
use Rattle.sch_read.specs.declared.token.Opener.TheVariants as openers
use Rattle.sch_read.specs.declared.token.Flaw.{Flaw}
use Rattle.sch_read.specs.declared.token.Flaw.TheVariants as flaws
use Rattle.sch_read.specs.declared.token.Token.{Token}
use Rattle.sch_read.specs.declared.token.Token.TheVariants as tokens
use Rattle.sch_read.specs.declared.token.Placed.{Placed}

abbrev pub opener_of : Opener → grammar.Opener
opener_of openers.Parenthesis = parenthesis
opener_of openers.HashParenthesis = hash_parenthesis
opener_of openers.QuoteMark = quote_mark

abbrev pub flaw_of : Flaw → grammar.Flaw
flaw_of flaws.Token = bad_token
flaw_of flaws.Number = bad_number
flaw_of flaws.String = bad_string

abbrev pub token_of : ℕ → Token → grammar.Token
token_of at (tokens.Open o) = grammar.Open at (opener_of o)
token_of at tokens.Close = grammar.Close at
token_of at tokens.Dot = grammar.Dot at
token_of at (tokens.Plain a) = grammar.Plain at (atom_of a)
token_of at tokens.Huge = grammar.Huge at
token_of at (tokens.Bad f) = grammar.Bad at (flaw_of f)

abbrev pub placed_of : Placed → grammar.Token
placed_of p = token_of p.at p.token

-- a token or none
abbrev pub tokens_of : Option Placed → List grammar.Token
tokens_of None = []
tokens_of (Some p) = placed_of p ∷ []
