pub mod FramedBodies
pub mod GreedyCalls
pub mod MadeFrom
pub mod OwnMarks
pub mod Registers
