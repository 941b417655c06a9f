use Rattle.std.proofs.Common.{◌≡◌, drop}
use Rattle.sch_names.specs.NamesView.{names_of}
use Rattle.sch_sketch.specs.Distinct as table
use Rattle.sch_names.specs.ScopeView.{given_names}
use Rattle.sch_sketch.proofs.distinct.are_distinct.Given as goal

abbrev pub invariant-loop-v : goal.invariant-loop-v
invariant-loop-v l = table.are_new (names_of l.seen) (table.named (given_names (drop l.v-index l.names))) ≡ table.are_distinct (given_names l.names)
