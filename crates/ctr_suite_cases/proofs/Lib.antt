pub mod Beside
pub mod Kept
