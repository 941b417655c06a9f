use Rattle.std.proofs.Common.{◌≡◌, drop, take}
use Rattle.sch_names.specs.ScopeView.{given_names}
use Rattle.sch_sketch.specs.Distinct.{named, are_new, are_distinct}
use Rattle.sch_sketch.proofs.distinct.are_few_distinct.Given as goal

abbrev pub invariant-loop-i : goal.invariant-loop-i
invariant-loop-i l = are_new (named (given_names (take l.i l.names))) (named (given_names (drop l.i l.names))) ≡ are_distinct (given_names l.names)
