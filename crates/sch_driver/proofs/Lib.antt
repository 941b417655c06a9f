mod BoundExamples
mod CycleExamples
mod PrintableListing
mod ProgramFits
pub mod Images
mod PartErrors
pub mod LibraryCount
pub mod KeptBounds
pub mod Meanings
pub mod Resolved
pub mod Steps
pub mod RoundSteps
pub mod SmallTexts
pub mod Sizes
pub mod LazyWays
pub mod StoresMarked
pub mod labels
mod StoreMarkExamples
