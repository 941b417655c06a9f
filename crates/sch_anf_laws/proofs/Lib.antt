pub mod runs
pub mod valid
pub mod kept
pub mod Examples
pub mod Items
pub mod DroppedAtoms
