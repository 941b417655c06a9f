pub mod Walks
pub mod MadeLists
pub mod MadeProgram
pub mod Sets
pub mod Scopes
pub mod Standing
pub mod Same
mod Examples
pub mod kept
pub mod Loops
pub mod Fields
pub mod AsManyBodies
