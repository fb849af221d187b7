pub mod Lists
pub mod ByFirst
pub mod Texts
pub mod Ones
pub mod Lexing
pub mod Fronts
pub mod Standing
pub mod Total
