pub mod ScopesAlike
pub mod ReadingsAgree
pub mod AssignedNames
