pub mod PartsView
pub mod Ranged
pub mod Size
pub mod Definitions
pub mod Wanted
