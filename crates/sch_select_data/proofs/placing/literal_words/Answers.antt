use Rattle.std.proofs.Common.{map, sym, ap, ◌∙◌}
use Rattle.sch_word.specs.values.LiteralView.{literals_of}
use Rattle.sch_asm.specs.declared.assembly.Word.TheVariants.{Fixed}
use Rattle.sch_select_data.proofs.literals.PlacedLiterals.{placed_objects, placed_literals}
use Rattle.sch_select_data.proofs.literals.PutLiterals.{all_words, all_values}
use Rattle.sch_select_data.proofs.placing.literal_words.Goals as goal

pub returns-clause-objects : goal.returns-clause-objects
returns-clause-objects c =
    let ls = c.args.literals.now in
    c.in_ok-as_words.ensures ∙ ap (map Fixed)
    (all_words ls c.args.first_unit c.in_ok-words.field-0 c.in_ok-words.ensures ∙ sym (placed_objects c.args.first_unit (literals_of ls)))

pub returns-clause-values : goal.returns-clause-values
returns-clause-values c =
    let ls = c.args.literals.now in
    c.in_ok-as_words-2.ensures ∙ ap (map Fixed)
    (c.into_list.ensures ∙ all_values ls c.args.first_unit c.in_ok-words.field-0 c.in_ok-words.ensures ∙ sym (placed_literals c.args.first_unit (literals_of ls)))
