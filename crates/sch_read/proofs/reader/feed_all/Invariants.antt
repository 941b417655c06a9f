use Rattle.std.proofs.Common.{◌≡◌, []}
use Rattle.sch_read.specs.Parser.Stack.{runs}
use Rattle.sch_read.specs.Lexer.Scan.{scan}
use Rattle.sch_read.specs.Parser.StackView.{state_of}
use Rattle.sch_read.specs.Lexer.PartialLexeme.{IsMet, left}
use Rattle.sch_read.proofs.reader.feed_all.Given as goal

-- what is left gives what the whole text gives
abbrev pub invariant-each : goal.invariant-each
invariant-each l = IsMet l.text l.i l.lexeme × (runs (state_of l.parser) (left l.text l.i l.lexeme) ≡ runs (state_of l.fn.parser) (scan 0 [] l.text))
