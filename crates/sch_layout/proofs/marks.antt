pub mod LaidWays
pub mod MarksStand
pub mod OwnMarks
