use Rattle.std.proofs.Common.{◌∙◌, ap, ◌++◌, append_assoc}
use Rattle.std.proofs.lemmas.Result.{on_ok_weaker}
use Rattle.sch_select_operations.proofs.pairs.pair.Goals as goal

pub returns : goal.returns
returns c = on_ok_weaker c.extend_from_slice.result
    (λ h rest. ap (λ l. l ++ rest) h ∙ append_assoc c.check_heap.new.out _ rest ∙ c.in_ok-check_heap.ensures _)
    c.extend_from_slice.ensures.ok
