pub mod FieldsInTurn
pub mod FileOfImage
pub mod HeaderTable
pub mod WrittenStands
pub mod ImageOfFile
pub mod OneRefusal
