-- That selection has numbers enough for the labels of what is compiled.
pub mod Occurring
pub mod CoreSites
pub mod MoveLabels
pub mod BodyLabels
pub mod FewLabels
