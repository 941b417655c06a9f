use Rattle.std.proofs.Common.{◌≡◌, ◌++◌, drop}
use Rattle.sch_generator.specs.Pieces.{pieces_text}
use Rattle.sch_generator.proofs.pieces.write_pieces.Given as goal

abbrev pub invariant-loop-piece : goal.invariant-loop-piece
invariant-loop-piece l = l.out ++ pieces_text (drop l.piece-index l.pieces) ≡ l.fn.out ++ pieces_text l.pieces
