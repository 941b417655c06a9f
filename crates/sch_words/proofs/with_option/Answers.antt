use Rattle.std.proofs.Common.{ap, Some, ◌∙◌}
use Rattle.clap.specs.Words.{Rule, app_of, rule_of, with_rule}
use Rattle.clap.specs.declared.builder.arg.Arg.{Arg}
use Rattle.sch_words.proofs.with_option.Goals as goal

pub returns : goal.returns
returns c =
    c.in_ok-arg.ensures.shape (ap (λ (x : Arg). x.global) c.long.ensures ∙ c.new.ensures.optional.1)
    ∙ ap (with_rule (app_of c.args.command))
    (ap rule_of c.long.ensures ∙ ap (λ (r : Rule). record r { long = Some c.args.name.now }) c.new.ensures.rule)
