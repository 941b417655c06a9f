use Rattle.std.proofs.Common.{◌*◌}
use Rattle.sch_sets.specs.Members.{HasNone}
use Rattle.sch_sets.proofs.Set.next.Given as goal

abbrev pub invariant-words : goal.invariant-words
invariant-words g l = HasNone l.from (64 * l.i) l.self
