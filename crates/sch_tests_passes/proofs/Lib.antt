pub mod ShortBodies
