pub mod ErrorLaws
pub mod ProgramOfText
pub mod TextSizes
pub mod ValidTexts
