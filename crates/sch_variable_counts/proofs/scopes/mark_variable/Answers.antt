use Rattle.std.proofs.Common.{◌∙◌, refl}
use Rattle.sch_variable_counts.proofs.Marks.{set_marked_last, far_marked}
use Rattle.sch_variable_counts.proofs.scopes.mark_variable.Goals as goal

pub returns-then-k-n : goal.returns-then-k-n
returns-then-k-n c = set_marked_last c.args.scope.now.items _ c.args.k c.len-n.result (c.len-n.ensures ∙ c.args.scope.now.ok.0) c.if-k-n.true refl

pub returns-else-k-n : goal.returns-else-k-n
returns-else-k-n c = far_marked c.args.scope.now.items c.args.k c.len-n.result (c.len-n.ensures ∙ c.args.scope.now.ok.0) c.if-k-n.false
