pub mod Best
pub mod Readings
pub mod Stacks
pub mod Examples
pub mod LastDraft
pub mod Falls
pub mod SoundRows
pub mod Procedures
mod OutlineExamples
