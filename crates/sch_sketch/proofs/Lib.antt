pub mod PartLists
pub mod PartJoins
pub mod Sketches
pub mod SmallMeasures
pub mod SmallSound
pub mod NamesBefore
pub mod SymbolLists
pub mod DefinitionSteps
pub mod GroupSteps
pub mod GroupsOfInits
pub mod WorkedData
mod Examples
