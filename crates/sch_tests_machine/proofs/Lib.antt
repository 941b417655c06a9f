pub mod JoinedPieces
