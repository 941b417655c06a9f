pub mod LazyRegions
pub mod Promises
pub mod SetsOfNeeds
