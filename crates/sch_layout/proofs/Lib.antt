pub mod CarriedCopies
pub mod does
pub mod EachCall
pub mod EntryCopies
mod LayoutExamples
mod LayoutWorkExamples
pub mod layouts
pub mod LowVariables
pub mod marks
mod MarkExamples
mod MoveExamples
pub mod MovesHave
mod PlacedExamples
pub mod SharedExamples
mod SlotPlan
mod Tables
pub mod Targets
