pub mod Maps
pub mod One
pub mod Looks
pub mod Sessions
pub mod Shown
pub mod Lowest
