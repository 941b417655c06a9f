pub mod ClauseLists
pub mod RowsFall
pub mod SoundRows
mod Examples
