use Rattle.sch_jumps.specs.Sizes.{ArePieces}
use Rattle.sch_tests_machine.proofs.chain.bytes_behind_120.Given as goal

abbrev pub invariant-loop : goal.invariant-loop
invariant-loop l = ArePieces l.pieces
