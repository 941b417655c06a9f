mod WorkedRows
pub mod RowSums
pub mod TallySteps
pub mod RunMarks
pub mod AddressMarks
pub mod MachineMarks
mod TextRows
pub mod TextSteps
