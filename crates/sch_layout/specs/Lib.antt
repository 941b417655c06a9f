pub mod BodyLayout
pub mod FewCopies
pub mod Laws
pub mod Moves
pub mod OwnMarks
pub mod PathMarks
pub mod SharedPlaces
