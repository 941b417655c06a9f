pub mod Assignments
pub mod Bodies
