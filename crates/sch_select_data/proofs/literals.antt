mod Examples
pub mod ObjectSpots
pub mod ObjectsThere
pub mod OwnWords
pub mod PlacedLiterals
pub mod PutLiterals
pub mod PutSteps
pub mod ReversedWords
pub mod Rows
pub mod Sizes
pub mod LiteralValues
pub mod NodeUnits
pub mod WordBytes
