use Rattle.std.proofs.lemmas.Result.{on_ok_weaker}
use Rattle.sch_elf.proofs.FieldsInTurn.{four_fields}
use Rattle.sch_elf.proofs.write.put_kind.Goals as goal

pub returns : goal.returns
returns c =
    on_ok_weaker c.put_xword.result (four_fields _ _ _ _ _ _ _ _ _ c.in_ok-put_half.ensures c.in_ok-put_half-2.ensures c.in_ok-put_word.ensures) c.put_xword.ensures
