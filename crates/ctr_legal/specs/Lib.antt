pub mod Cover
pub mod Kept
pub mod Ready
pub mod Laws
