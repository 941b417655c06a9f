pub mod Ends
pub mod Numbered
pub mod Parts
pub mod PartsInTurn
pub mod Scoped
pub mod SitesKept
pub mod ValidBodies
pub mod ValidProgram
