pub mod Totals
pub mod Facts
pub mod Finding
pub mod Columns
pub mod Counting
pub mod Along
