pub mod Columns
pub mod Payload
pub mod Values
