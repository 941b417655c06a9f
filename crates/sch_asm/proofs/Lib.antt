pub mod Tables
pub mod Skeleton
pub mod Emitted
pub mod FormsOf
pub mod Standing
pub mod Words
pub mod Beside
pub mod Bytes
pub mod EachItem
pub mod Pieces
pub mod ItemParts
pub mod Joined
mod Examples
mod NarrowExamples
pub mod Shortest
pub mod NarrowItems
pub mod AsMany
