pub mod FaultOrder
pub mod Expands
pub mod Faults
pub mod Reads
pub mod Following
pub mod WalkStack
pub mod Outline
