mod PlacedExample
mod TwoSetsExamples
