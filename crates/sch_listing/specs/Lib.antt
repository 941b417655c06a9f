pub mod Lines
pub mod ListingText
