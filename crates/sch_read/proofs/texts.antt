pub mod ScannedText
pub mod StringContents
pub mod TextAnswers
