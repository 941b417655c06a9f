pub mod Forms
pub mod Assigned
pub mod Texts
pub mod Items
pub mod Views
pub mod FormView
