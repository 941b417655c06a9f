use Rattle.std.proofs.Common.{◌≡◌, ◌+◌}
use Rattle.sch_read.specs.Lexer.Token.{content}
use Rattle.sch_read.proofs.texts.StringContents.{with_bytes, left}
use Rattle.sch_read.proofs.strings.string_token.Given as goal

-- what was read stands before what is left
abbrev pub invariant-each : goal.invariant-each
invariant-each l = content (l.at + 1) l.rest ≡ with_bytes l.bytes (left l.escaping l.at l.i l.rest)
