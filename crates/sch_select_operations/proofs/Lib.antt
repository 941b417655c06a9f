pub mod simulation
pub mod objects
