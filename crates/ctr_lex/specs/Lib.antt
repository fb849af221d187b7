pub mod One
pub mod Tokens
