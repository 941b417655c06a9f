pub mod NameTables
pub mod NameNumbers
pub mod ScopeLists
pub mod Counts
mod Examples
