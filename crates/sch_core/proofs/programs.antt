pub mod KeptDefinitions
pub mod Starts
pub mod ValidPrograms
pub mod ValidForms
pub mod ItemDefinitions
