pub mod FixnumData
pub mod Printed
pub mod Tasks
