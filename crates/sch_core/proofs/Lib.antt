pub mod Bytes
pub mod DataKnown
pub mod ExcessSteps
pub mod ExcessWithoutNumbers
pub mod texts
pub mod DatumLaws
pub mod DataLaws
pub mod readings
pub mod items
mod Examples
pub mod drafts
pub mod sizes
pub mod notions
pub mod numbered
pub mod programs
mod ValidityExamples
