pub mod Walked
pub mod Closed
pub mod Fresh
pub mod Kept
pub mod Found
