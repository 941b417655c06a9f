pub mod BodyCounts
pub mod CoveredPrograms
pub mod Environments
pub mod ListViews
mod Loop
pub mod Measured
pub mod MoreEntries
pub mod OutputFails
pub mod OwnOrders
pub mod Scopes
pub mod SitesInOrder
pub mod SpentComputations
mod worked
