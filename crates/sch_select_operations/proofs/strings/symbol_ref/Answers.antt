use Rattle.std.proofs.Common.{◌∙◌, refl, ap, ◌++◌, append_assoc}
use Rattle.std.proofs.lemmas.Result.{on_ok_weaker}
use Rattle.sch_select_operations.proofs.strings.symbol_ref.Goals as goal

pub returns : goal.returns
returns c = on_ok_weaker c.extend_from_slice.result
    (λ h rest. ap (λ l. l ++ rest) h ∙ append_assoc c.args.out.now _ rest ∙ rw (
      c.stop.ensures,
      c.stop-2.ensures,
      c.stop-3.ensures,
    ) refl) c.extend_from_slice.ensures.ok
