-- Pieces behind pieces.
use Rattle.std.proofs.Common.{List, [], ◌∷◌, ◌++◌}
use Rattle.sch_jumps.specs.declared.piece.Piece.{Piece}
use Rattle.sch_jumps.specs.Sizes.{ArePieces}

pub are_pieces_behind : (ps qs : List Piece) → ArePieces ps → ArePieces qs → ArePieces (ps ++ qs)
are_pieces_behind [] qs a b = b
are_pieces_behind (p ∷ ps) qs a b = (a.0, are_pieces_behind ps qs a.1 b)
