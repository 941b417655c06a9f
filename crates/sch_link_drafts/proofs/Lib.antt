pub mod NumberSteps
mod NumberingRows
