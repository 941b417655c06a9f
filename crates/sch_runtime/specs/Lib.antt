pub mod Code
pub mod Form
pub mod FrameRegister
pub mod HandedWord
pub mod HeapRegister
pub mod Written
