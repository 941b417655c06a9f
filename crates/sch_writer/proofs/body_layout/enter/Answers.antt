use Rattle.std.proofs.Common.{◌≡◌, ◌+◌, ◌∙◌, suc, refl, arith}
use Rattle.std.proofs.lemmas.Result.{on_ok_weaker}
use Rattle.sch_writer.proofs.body_layout.enter.Goals as goal

pub returns-in-Some-clause-instructions : goal.returns-in-Some-clause-instructions
returns-in-Some-clause-instructions g c =
    let count : c.in-Some.e.formals + 1 ≡ suc c.in-Some.e.formals = omega arith in
    on_ok_weaker c.arrive.result (λ h. rw c.in-Some.is (λ rest. h rest ∙ rw count refl)) c.arrive.ensures.instructions
