-- The machine does what operands, primitives, operations and calls do.
pub mod SelectedPrograms
pub mod Primitives
pub mod Operands
pub mod Operations
pub mod PrimitiveOperations
pub mod Sources
pub mod Cells
pub mod Records
pub mod Closures
pub mod Calls
pub mod EachOperation
