pub mod Joins
pub mod Lists
