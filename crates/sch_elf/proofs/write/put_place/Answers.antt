use Rattle.std.proofs.Common.{[], ◌∷◌, ◌++◌, ap, ◌∙◌}
use Rattle.std.proofs.lemmas.Result.{on_ok_weaker}
use Rattle.sch_elf.specs.Constants.{PT_LOAD}
use Rattle.sch_elf.specs.Writing.{fields}
use Rattle.sch_elf.proofs.FieldsInTurn.{four_fields}
use Rattle.sch_elf.proofs.write.put_place.Goals as goal

pub returns : goal.returns
returns c =
    on_ok_weaker c.put_xword-2.result
    (λ e. four_fields _ _ _ _ _ _ _ _ _ c.in_ok-put_word.ensures c.in_ok-put_word-2.ensures c.in_ok-put_xword.ensures e
    ∙ ap (λ n. c.args.file.now.items ++ fields ((4, PT_LOAD) ∷ (4, n) ∷ (8, c.args.offset) ∷ (8, c.args.segment.now.address) ∷ [])) c.flags.ensures)
    c.put_xword-2.ensures
