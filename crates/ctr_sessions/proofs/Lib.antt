pub mod Alike
pub mod Own
pub mod Answers
pub mod Writes
pub mod Steps
pub mod Cleaning
pub mod Views
