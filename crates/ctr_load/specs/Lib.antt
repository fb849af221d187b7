pub mod Draws
pub mod Generated
pub mod Statements
pub mod Whole
