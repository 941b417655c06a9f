pub mod NameWords
pub mod Data
pub mod ObjectParts
pub mod ObjectWords
pub mod PlacedWords
pub mod PlacedView
