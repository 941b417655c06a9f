use Rattle.std.proofs.Common.{◌≡◌, drop}
use Rattle.sch_names.specs.Scope.{is_among}
use Rattle.sch_names.specs.ScopeView.{given_names}
use Rattle.sch_sketch.specs.Distinct.{named}
use Rattle.sch_sketch.proofs.distinct.is_among.Given as goal

abbrev pub invariant-loop-v : goal.invariant-loop-v
invariant-loop-v l = is_among l.x (named (given_names (drop l.v-index l.names))) ≡ is_among l.x (named (given_names l.names))
