use Rattle.std.proofs.lemmas.Result.{on_ok_weaker}
use Rattle.sch_writer.proofs.saves.save_if.Goals as goal

pub returns-then-is_asked-clause-instructions : goal.returns-then-is_asked-clause-instructions
returns-then-is_asked-clause-instructions g c = on_ok_weaker c.save.result (λ h. rw c.if-is_asked.true h) c.save.ensures.instructions
