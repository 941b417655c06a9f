pub mod Within
pub mod Walked
pub mod Counts
