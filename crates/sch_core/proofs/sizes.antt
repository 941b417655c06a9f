pub mod StaticsOfPrograms
pub mod StaticsOfDrafts
pub mod StaticsOfRows
pub mod StaticsOfSketches
pub mod SmallBodies
