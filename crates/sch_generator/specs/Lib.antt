pub mod DrawnBody
pub mod Draws
pub mod GeneratedText
pub mod Pieces
