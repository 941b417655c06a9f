pub mod Constants
pub mod Elf
pub mod Layout
pub mod Numbers
pub mod Program
pub mod Refused
pub mod Stands
pub mod Writing
