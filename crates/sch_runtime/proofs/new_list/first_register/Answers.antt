use Rattle.std.proofs.Common.{◌∙◌, ap, ◌++◌, append_assoc, refl, add-one}
use Rattle.std.proofs.lemmas.Result.{on_ok_weaker}
use Rattle.sch_runtime.proofs.new_list.first_register.Goals as goal

pub returns : goal.returns
returns c = on_ok_weaker c.extend_from_slice.result
    (λ h rest. ap (λ l. l ++ rest) h ∙ append_assoc c.args.out.now _ rest ∙ rw (add-one c.args.m) refl)
    c.extend_from_slice.ensures.ok
