pub mod AfterDashes
pub mod CommandExamples
pub mod GivenInTurn
pub mod GivenRows
pub mod OneWalk
pub mod PendingTexts
pub mod PlainIsClap
pub mod WordKinds
