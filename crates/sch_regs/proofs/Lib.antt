mod Examples
pub mod ApartAtPoints
pub mod ChoiceSteps
pub mod InScope
pub mod NotedBackward
pub mod NotedPlaces
pub mod NotedSteps
pub mod OneChoice
pub mod UsualPlaces
pub mod WellBound
pub mod WholeBodies
pub mod PlacedBodies
pub mod SameRuns
pub mod SavedWhereRestored
pub mod StartSteps
pub mod TableMade
