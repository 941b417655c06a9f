use Rattle.std.proofs.Common.{◌∙◌}
use Rattle.sch_variable_counts.proofs.Marks.{left_scope}
use Rattle.sch_variable_counts.proofs.scopes.leave.Goals as goal

pub returns : goal.returns
returns c = left_scope c.args.scope.now.items c.truncate.new.self.items c.args.count c.len-n.result c.saturating_sub.result (c.len-n.ensures ∙ c.args.scope.now.ok.0) c.saturating_sub.ensures c.truncate.ensures.items
