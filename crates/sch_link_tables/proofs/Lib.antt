pub mod DraftViews
pub mod DraftLists
pub mod MarkSteps
pub mod NameSteps
pub mod SymbolsInOrder
pub mod QuoteSteps
pub mod ProcedureLists
pub mod FewNumbers
mod Examples
