use Rattle.std.proofs.Common.{◌≡◌, ◌+◌, ◌*◌}
use Rattle.sch_read.specs.Valid.{weight}
use Rattle.sch_read.specs.Views.{tree_of}
use Rattle.sch_tests_passes.proofs.expander.in_beginnings.Given as goal

abbrev pub invariant-loop-at : goal.invariant-loop-at
invariant-loop-at l = weight (tree_of l.d) ≡ 1 + 7 * l.at
