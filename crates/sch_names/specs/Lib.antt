pub mod Words
pub mod Operations
pub mod Scope
pub mod NamesView
pub mod ScopeView
pub mod HeadView
