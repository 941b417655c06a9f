use Rattle.std.proofs.Common.{◌≤◌, ◌^◌, length, subst, sym}
use Rattle.sch_generator.proofs.TextLength.{length-generated_text}
use Rattle.sch_generator.proofs.WrittenLines.{text_written}
use Rattle.sch_generator.proofs.generated_text.generate.Goals as goal

pub returns-clause-text : goal.returns-clause-text
returns-clause-text c = text_written c.args.number c.write_definitions.new.draws.state c.new-out.result c.write_definitions.new.out c.write_calls.new.out
    c.new-out.ensures c.in_ok-write_definitions.ensures.text c.in_ok-write_definitions.ensures.state c.in_ok-write_calls.ensures.text

pub returns-clause-short : goal.returns-clause-short
returns-clause-short c = subst (λ text. length text ≤ 2 ^ 20) (sym (returns-clause-text c)) (length-generated_text c.args.number)
