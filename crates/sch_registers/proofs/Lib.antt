pub mod DensePlaces
pub mod EachFramed
pub mod FewRegions
pub mod FewRegisters
pub mod FormHeads
pub mod FramedOne
pub mod GreedyMade
pub mod InOrder
pub mod JoinedPasses
pub mod ListedProgram
pub mod MadeOne
mod RegistersExamples
