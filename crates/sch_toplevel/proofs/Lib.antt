pub mod FormLists
pub mod AssignedDrafts
pub mod PartsRead
pub mod TextLaws
pub mod WholeTexts
pub mod ItemSteps
mod Examples
