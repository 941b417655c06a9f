pub mod Fixnums
pub mod LiteralEffort
pub mod LiteralObjects
pub mod LiteralSteps
pub mod NameSizes
pub mod StopStatus
