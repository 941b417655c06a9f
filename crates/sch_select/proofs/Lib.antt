pub mod programs
pub mod items
pub mod frame
