use Rattle.std.proofs.Common.{ap, ◌∙◌, rules, [], ◌++◌, length}
use Rattle.std.specs.Prelude.{slice_range}
use Rattle.sch_read.specs.Parser.Stack.{runs}
use Rattle.sch_read.specs.Lexer.Token.{token_at}
use Rattle.sch_read.specs.Parser.StackView.{state_of, Fails}
use Rattle.sch_read.proofs.texts.ScannedText.{left_last}
use Rattle.sch_read.proofs.reader.feed_last.Goals as goal

pub returns-clause-ok : goal.returns-clause-ok
returns-clause-ok c = ap (runs (state_of c.args.parser.now)) (left_last c.args.text.now c.args.lexeme) ∙ c.in_ok-feed.ensures []

pub returns-in_err-feed-clause-err : goal.returns-in_err-feed-clause-err
returns-in_err-feed-clause-err c =
    let failed : Fails c.in_err-feed.field-0.0 (runs (state_of c.args.parser.now) (token_at c.args.lexeme.start (slice_range c.args.text.now c.args.lexeme.start (length c.args.text.now)) ++ [])) =
    c.in_err-feed.ensures [] in
    rw (left_last c.args.text.now c.args.lexeme) (search rules)
