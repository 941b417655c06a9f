pub mod BackwardSets
pub mod LiveListed
pub mod Reached
