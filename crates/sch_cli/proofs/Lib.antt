pub mod CommandCases
pub mod CompiledFiles
mod CountExamples
pub mod CountedImages
pub mod DiskSteps
mod ImageExamples
pub mod ImageStatus
pub mod InTime
mod LineExamples
pub mod LoneRuns
pub mod MachineEnds
pub mod NoImageStatus
pub mod OneStatus
pub mod SomeVerdict
mod SourceExamples
pub mod SourceStatus
pub mod TextFailures
pub mod ProgramRuns
pub mod LineParts
pub mod ListedEntries
pub mod UnreadWords
