pub mod Cover
pub mod Keep
pub mod Telling
pub mod Ready
pub mod Reached
pub mod Own
pub mod Tapes
pub mod Answered
