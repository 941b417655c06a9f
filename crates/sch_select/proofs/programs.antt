-- Whole programs: what is selected, and that it follows its runs.
pub mod FreeCodes
pub mod Bodies
pub mod Procedures
pub mod StandingBodies
pub mod Forms
pub mod Steps
pub mod EnterMarks
pub mod EnterCounts
pub mod OwnWays
pub mod PathEvents
pub mod Whole
pub mod JoinedProgram
pub mod CoveredPrograms
pub mod Examples
pub mod CallExamples
