pub mod Capacity
pub mod Sizes
pub mod Least
pub mod Spans
pub mod Places
