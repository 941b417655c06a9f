pub mod GivenTexts
pub mod PlainReading
pub mod SimpleCommand
pub mod View
