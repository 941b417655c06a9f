mod Examples
pub mod LiteralRows
mod PrimitiveExamples
mod CoveredRows
mod TypeRows
mod WeightRows
mod RegisterRows
mod OrderRows
