pub mod LibraryText
