pub mod Titles
pub mod Lowest
pub mod OneRecord
pub mod Made
pub mod Found
pub mod Changes
pub mod Searched
pub mod Schemas
pub use Rattle.ctr_names.proofs.Fates as names_Fates
