pub mod ProgramSize
pub mod ProgramConstants
pub mod ProgramMade
pub mod DefinitionSteps
mod Examples
pub mod NameSets
pub mod KeepSteps
pub mod FewDefinitions
