-- What the machine owes to an outcome, how a procedure is entered, and the put of any value.
pub mod Outcomes
pub mod ProcedureEntries
pub mod PutValue
