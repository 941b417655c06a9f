mod Examples
pub mod EagerSteps
pub mod EagerTrees
pub mod RestoredBodies
