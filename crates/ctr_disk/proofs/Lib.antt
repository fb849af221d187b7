pub mod Moments
pub mod Sections
pub mod Torn
