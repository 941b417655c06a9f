pub mod ListsLeft
pub mod ExpressionViews
pub mod Marks
pub mod MarkSteps
pub mod FreeLists
pub mod FreeFound
pub mod CappedCounts
pub mod TakenMarks
