pub mod Counted
pub mod Kept
pub mod LabelsFit
pub mod Normal
pub mod SameRun
