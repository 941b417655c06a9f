pub mod FewOperands
pub mod Regions
pub mod View
