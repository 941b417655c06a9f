pub mod WordSets
pub mod Membership
mod Examples
