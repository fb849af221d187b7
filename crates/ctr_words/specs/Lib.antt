pub mod Words
pub mod Read
