-- The machine makes a list of the operands that are left over.
pub mod RestRoutine
pub mod RestEntry
pub mod RestObjects
pub mod RestLoop
pub mod RestRegisters
pub mod Rests
pub mod RestPlaces
