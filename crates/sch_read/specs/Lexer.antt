-- From bytes to tokens.
pub mod Token
pub mod Cut
pub mod Scan
pub mod TokenView
pub mod PartialLexeme
pub mod Identifiers
pub mod Letters
pub mod Lexeme
pub mod Numerals
pub mod Stages
