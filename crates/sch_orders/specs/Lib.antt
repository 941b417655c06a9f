pub mod ListedCalls
pub mod ListedTable
