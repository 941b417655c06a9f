pub mod Restores
