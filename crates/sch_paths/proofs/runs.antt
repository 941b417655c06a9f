pub mod AlikeWithMarks
pub mod PlainlyTheSame
pub mod RestoresAreEnough
pub mod SameOperands
pub mod SameProgramRuns
pub mod SameWithoutMarks
