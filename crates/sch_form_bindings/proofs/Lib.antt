pub mod BindingLists
pub mod NamedLets
pub mod BindersFall
pub mod SoundBinders
mod BinderExamples
pub mod LoopSteps
pub mod LoopsFall
pub mod SoundLoops
mod LoopExamples
