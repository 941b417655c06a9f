pub mod PutSteps
pub mod StoredFiles
