use Rattle.std.proofs.Common.{◌≤◌, ◌+◌, ◌*◌}
use Rattle.sch_word.specs.values.LiteralView.{literal}
use Rattle.sch_word.specs.values.Literals.{literal_size}
use Rattle.sch_tests_passes.proofs.deep_literals.deep.Given as goal

abbrev pub invariant-loop-level : goal.invariant-loop-level
invariant-loop-level l = literal_size (literal l.l) ≤ 2 * l.level + 1
