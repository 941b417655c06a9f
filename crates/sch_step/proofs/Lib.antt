mod Memory
pub mod Outlets
mod KernelRows
mod ProcessorSteps
pub mod MachineRuns
mod ImageMemory
mod EndedMachines
mod FetchedStays
mod FetchedExamples
mod RowsOfWords
mod StuckRows
