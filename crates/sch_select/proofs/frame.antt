-- How a program's items use the address of the frame, that of a slot, and the bases of their operands.
pub mod ProgramFrames
pub mod ProgramBases
pub mod FrameExamples
pub mod BaseExamples
