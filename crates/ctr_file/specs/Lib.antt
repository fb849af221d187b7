pub mod Folder
pub mod Ahead
