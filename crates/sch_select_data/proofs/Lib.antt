pub mod Pieces
pub mod SymbolNames
pub mod StartData
pub mod StaticSizes
pub mod TextSteps
mod DataExamples
pub mod literals
