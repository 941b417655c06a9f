use Rattle.std.proofs.Common.{◌+◌, [], ◌∷◌, ◌++◌, ap, ◌∙◌}
use Rattle.std.proofs.lemmas.Result.{on_ok_weaker}
use Rattle.sch_elf.specs.Constants.{page_size}
use Rattle.sch_elf.specs.Writing.{fields}
use Rattle.sch_elf.proofs.FieldsInTurn.{four_fields}
use Rattle.sch_elf.proofs.write.put_sizes.Goals as goal

pub returns : goal.returns
returns c =
    let segment = c.args.segment.now in
    on_ok_weaker c.put_xword-4.result
    (λ e. four_fields _ _ _ _ _ _ _ _ _ c.in_ok-put_xword.ensures c.in_ok-put_xword-2.ensures c.in_ok-put_xword-3.ensures e
    ∙ ap (λ n. c.args.file.now.items ++ fields ((8, segment.address) ∷ (8, n) ∷ (8, n + segment.zeros) ∷ (8, page_size) ∷ [])) c.len-size.ensures)
    c.put_xword-4.ensures
