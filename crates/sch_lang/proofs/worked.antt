mod BodyExamples
mod Examples
mod CoveredExamples
mod OrderExamples
mod SizeExamples
mod TailExamples
mod ValidExamples
mod VariableExamples
