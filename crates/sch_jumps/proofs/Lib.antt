pub mod Monotone
pub mod Growth
pub mod Least
pub mod Pressing
pub mod FirstsAndLasts
pub mod Searching
pub mod Building
pub mod Lists
pub mod Whole
pub mod Text
mod Examples
pub mod Exact
pub mod Near
pub mod Reaching
pub mod Placing
pub mod Owning
