pub mod Leading
pub mod Along
pub mod Keeping
pub mod Sparing
pub mod Buckets
pub mod Stepping
pub mod Agreeing
pub mod Growing
