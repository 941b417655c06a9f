use Rattle.std.proofs.Common.{ap, ◌∙◌}
use Rattle.clap.specs.Words.{app_of, with_rule}
use Rattle.sch_words.proofs.with_positional.Goals as goal

pub returns : goal.returns
returns c =
    c.in_ok-arg.ensures.shape c.new.ensures.optional.1 ∙ ap (with_rule (app_of c.args.command)) c.new.ensures.rule
