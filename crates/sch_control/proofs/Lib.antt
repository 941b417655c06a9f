pub mod Examples
mod ReadingExamples
mod ValidExamples
mod CoveredExamples
mod WorkExamples
pub mod RegisterUnits
pub mod OperandSizes
pub mod Environments
pub mod FittingTable
pub mod OrderLists
pub mod PlainMarks
pub mod OrderExamples
mod FlowExamples
mod PlaceExamples
pub mod ExactPlaces
pub mod ExactSets
pub mod SameBodies
pub mod NumberLists
pub mod ReadSteps
pub mod SetTests
pub mod NumberRows
pub mod VariableLists
pub mod Results
pub mod MarksAlone
pub mod SlotCounts
pub mod RegisterOrSlot
