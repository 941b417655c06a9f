pub mod Layout
pub mod Fetched
pub mod Propositions
pub mod View
pub mod Kernel
pub mod Kinds
pub mod Run
pub mod Machine
