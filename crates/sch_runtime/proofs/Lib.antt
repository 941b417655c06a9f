pub mod ZeroTests
pub mod Exits
pub mod WriteLoop
pub mod PutRoutine
pub mod Digits
pub mod PutFixnum
pub mod PutBytes
pub mod FillLoop
pub mod Effective
pub mod RoutineItems
mod EachRegister
pub mod AllForms
pub mod AllItems
pub mod Examples
mod FormExamples
