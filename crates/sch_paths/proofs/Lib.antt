pub mod paths
pub mod runs
pub mod saves
mod worked
