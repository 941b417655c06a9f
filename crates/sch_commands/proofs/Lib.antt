pub mod AdmittedWords
pub mod AnyCommand
pub mod Digits
