use Rattle.std.proofs.Common.{◌≡◌, ◌-◌, [], length, drop, ◌∙◌, arith}
use Rattle.std.proofs.lemmas.List.{drop_all}
use Rattle.sch_names.specs.Scope.{Scope}
use Rattle.sch_expansion.proofs.walk.Walk.forget.Goals as goal

none_left : (s : Scope) → drop (length s - 0) s ≡ []
none_left s = drop_all (length s - 0) s (omega arith)

pub returns-clause-scope : goal.returns-clause-scope
returns-clause-scope c = c.leave.ensures ∙ none_left c.loop-node.self.scope
