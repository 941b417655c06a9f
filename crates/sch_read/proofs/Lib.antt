pub mod Completions
pub mod Runs
pub mod FirstFault
pub mod Longest
pub mod DataLists
pub mod DatumSteps
pub mod FrameStack
pub mod CappedNumbers
pub mod Weights
pub mod Validity
pub mod ReleaseEffort
pub mod texts
pub mod CappedDigits
mod Examples
