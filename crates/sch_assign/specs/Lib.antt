pub mod Celled
pub mod Converted
pub mod InRange
pub mod PartsOfRec
pub mod Table
