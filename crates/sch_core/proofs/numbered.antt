pub mod Groups
pub mod Sites
pub mod Scopes
pub mod Shapes
pub mod Limits
pub mod FewBodies
pub mod Names
