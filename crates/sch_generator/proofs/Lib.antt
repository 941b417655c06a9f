pub mod Examples
pub mod TextLength
pub mod WrittenLines
