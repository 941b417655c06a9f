use Rattle.std.proofs.Common.{ap, ◌∙◌}
use Rattle.sch_read.specs.Parser.Stack.{runs}
use Rattle.sch_read.specs.Parser.StackView.{state_of}
use Rattle.sch_read.proofs.texts.ScannedText.{met_more, left_more, met_next, left_next}
use Rattle.sch_read.proofs.reader.turn.Goals as goal

pub returns-in-Some-clause-met : goal.returns-in-Some-clause-met
returns-in-Some-clause-met c =
    met_more c.args.text.now c.args.i c.args.lexeme c.in-Some.stage c.requires.within c.requires.met c.in-Some.ensures

pub returns-in-Some-clause-ok : goal.returns-in-Some-clause-ok
returns-in-Some-clause-ok c =
    ap (runs (state_of c.args.parser.now)) (left_more c.args.text.now c.args.i c.args.lexeme c.in-Some.stage c.requires.within c.requires.met c.in-Some.ensures)

pub returns-in_ok-feed-in-None-clause-met : goal.returns-in_ok-feed-in-None-clause-met
returns-in_ok-feed-in-None-clause-met c =
    met_next c.args.text.now c.args.i c.begin.result c.requires.within c.begin.ensures.first

pub returns-in_ok-feed-in-None-clause-ok : goal.returns-in_ok-feed-in-None-clause-ok
returns-in_ok-feed-in-None-clause-ok c =
    ap (runs (state_of c.args.parser.now)) (left_next c.args.text.now c.args.i c.args.lexeme c.begin.result c.requires.within c.requires.met c.in-None.ensures)
    ∙ c.in_ok-feed-in-None.ensures _
