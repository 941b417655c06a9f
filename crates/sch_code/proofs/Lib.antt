mod FirstByte
mod EndedForms
mod OperandRead
mod Whole
pub mod Spelled
