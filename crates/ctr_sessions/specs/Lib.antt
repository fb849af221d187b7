pub mod Sessions
pub mod Answers
pub mod Laws
pub mod Steps
pub mod Cleaning
pub mod Views
pub use Rattle.ctr_legal.specs.Kept as legal_Kept
