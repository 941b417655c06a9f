pub mod Lists
pub mod PutSize
pub mod OnAnswer
pub mod Reading
pub mod ReadingsAreSpelled
pub mod PrefixCode
pub mod Paths
pub mod OutputGrows
pub mod Clauses
pub mod SegmentContents
pub mod Conditions
pub mod ShortForms
mod Rows
mod EachRow
mod EachSpelling
