pub mod Endings
pub mod Top
