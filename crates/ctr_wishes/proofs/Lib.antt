pub mod Good
pub mod Suiting
pub mod Updating
pub mod Chains
pub mod Modelled
pub mod Unrefused
pub mod Behind
pub use Rattle.ctr_reading.proofs.views_Looking as views_Looking
pub use Rattle.ctr_reading.proofs.views_Reading as views_Reading
pub use Rattle.ctr_reading.proofs.catalog_Searched as catalog_Searched
