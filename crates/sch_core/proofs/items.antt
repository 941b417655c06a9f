pub mod DefinitionSteps
pub mod ItemShapes
pub mod ItemLaws
pub mod SoundItems
pub mod LibraryLaws
