pub mod TableExamples
pub mod EachOnce
pub mod TableFits
pub mod CallsFit
pub mod TableLoops
