-- The content of a string, byte after byte.
use Rattle.std.proofs.Common.{ℕ, ◌+◌, List, ◌++◌, drop, Bool, true, false}
use Rattle.sch_read.specs.Lexer.Token.{Content, Whole, Unended, NoEscape, content, escape_content}

-- bytes before what is left
abbrev pub with_bytes : List ℕ → Content → Content
with_bytes front (Whole bs) = Whole (front ++ bs)
with_bytes front Unended = Unended
with_bytes front (NoEscape at) = NoEscape at

-- what is left of the string at that place, from an index on
abbrev pub left : Bool → ℕ → ℕ → List ℕ → Content
left true at i rest = escape_content (at + i) (drop i rest)
left false at i rest = content (at + 1 + i) (drop i rest)
