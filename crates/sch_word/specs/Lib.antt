pub mod ToVisit
pub mod formers
pub mod trees
pub mod values
pub mod runs
