pub mod ActivationCounts
pub mod Tallied
pub mod MarkTables
pub mod TracedCounts
pub mod CountsText
