pub mod DefinitionsFall
pub mod SoundDefinitions
pub mod BodiesFall
pub mod SoundBodies
mod DefinitionExamples
mod BodyExamples
