mod Examples
pub mod LazySteps
pub mod LazyTrees
pub mod LazySets
pub mod ListTurns
pub mod SavedBodies
pub mod TwoSetsOf
