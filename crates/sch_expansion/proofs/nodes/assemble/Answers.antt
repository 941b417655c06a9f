use Rattle.std.proofs.Common.{refl, ◌∙◌}
use Rattle.sch_expansion.proofs.LastDraft.{lambda_made}
use Rattle.sch_expansion.proofs.nodes.assemble.Goals as goal

pub returns-in_ok-e-in-Lambda : goal.returns-in_ok-e-in-Lambda
returns-in_ok-e-in-Lambda c = c.in_ok-e-in-Lambda.ensures ∙ lambda_made _ _ _ _ _ _ c.in-Lambda.is c.len.ensures refl
