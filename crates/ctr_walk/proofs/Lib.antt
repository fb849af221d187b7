pub mod Joins
pub mod Records
pub mod PagesRead
pub mod Damages
pub mod Searches
pub mod Limits
pub mod Firsts
pub mod Ends
pub mod Said
pub mod Telling
pub mod Entries
pub use Rattle.ctr_store.proofs.base_GrowLaws as base_GrowLaws
