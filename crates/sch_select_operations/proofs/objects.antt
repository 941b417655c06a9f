-- The machine makes objects, reads them and sets their parts.
pub mod HeapTests
pub mod Tags
pub mod Indices
pub mod Pairs
pub mod Vectors
pub mod Strings
pub mod StringWrites
pub mod Symbols
pub mod Three
pub mod NewObjects
pub mod ObjectWrites
pub mod Makes
pub mod FillEffects
