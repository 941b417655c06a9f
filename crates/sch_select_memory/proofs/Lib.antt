pub mod heap
pub mod Straight
pub mod Places
pub mod HeapWrites
pub mod Changes
pub mod StoredNames
pub mod simulation
pub mod lists
pub mod Sound
mod RegisterNames
mod WordRows
mod LabelRows
