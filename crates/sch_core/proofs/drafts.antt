pub mod Parts
pub mod Soundness
pub mod Levels
pub mod NearVariables
