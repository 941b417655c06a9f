pub mod BodyLimits
pub mod BodyPlaces
pub mod CallEnds
pub mod CallLists
pub mod CallSpare
pub mod CallsBring
pub mod CoveredHomes
pub mod FewKept
pub mod FewMoves
pub mod FrameDoes
pub mod FrameRoom
pub mod FrameValid
pub mod HomeLoops
mod HomesExamples
pub mod HomesPlaced
pub mod KeptByType
pub mod KeptCopies
pub mod ListedOrders
pub mod LiveRestores
pub mod MovesEnd
mod ListedExamples
mod MovesExamples
pub mod Numbered
pub mod PlacedTrees
pub mod SavedInReach
pub mod ShuffledMoves
pub mod SlotsApart
pub mod SoonSaved
pub mod SpareTemporaries
pub mod StraightArguments
pub mod StraightCalls
pub mod TablePlan
pub mod WholeFrame
