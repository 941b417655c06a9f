pub mod Examples
pub mod MarkAddresses
