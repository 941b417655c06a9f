pub mod CallsKept
pub mod TestsKept
pub mod NoneDropped
pub mod EachBody
pub mod BindNoMore
pub mod FewSequences
pub mod CoveredKept
pub mod WorkKept
