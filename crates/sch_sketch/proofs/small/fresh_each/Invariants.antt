use Rattle.std.proofs.Common.{◌≡◌, ◌++◌, drop}
use Rattle.sch_read.specs.Views.{data_of}
use Rattle.sch_sketch.specs.Small.{fresh_each}
use Rattle.sch_names.specs.ScopeView.{given_names}
use Rattle.sch_sketch.proofs.small.fresh_each.Given as goal

abbrev pub invariant-loop-d : goal.invariant-loop-d
invariant-loop-d l = given_names l.fresh ++ fresh_each (data_of (drop l._d-index l.items)) ≡ fresh_each (data_of l.items)
