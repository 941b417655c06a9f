pub mod Notions
pub mod FitSketches
pub mod FitRows
pub mod FitDrafts
pub mod DataInRange
pub mod NamedGlobals
