pub mod Answers
pub mod Refusals
pub mod Spelled
pub mod Trees
