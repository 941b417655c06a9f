mod Examples
pub mod EmptySets
pub mod LiveBodies
pub mod LiveSteps
pub mod MadeLists
pub mod ReachedSets
