pub mod Bindings
pub mod Binders
pub mod Loops
