pub mod NotedSets
pub mod PlaceChoice
pub mod Promises
pub mod SetsAsTests
pub mod Shows
pub mod Spills
