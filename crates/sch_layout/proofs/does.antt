pub mod CallsReady
pub mod EntryStores
pub mod LabelsPassed
pub mod LayoutDoes
pub mod MovesDo
pub mod OperationsFollow
pub mod PlacedBodies
pub mod PlacesAgree
