pub mod Puts
pub mod Back
pub mod Entries
pub mod Holding
pub mod Passing
pub mod Differing
pub mod Searches
pub use Rattle.ctr_rec.proofs as ctr_rec
pub use Rattle.ctr_rec.proofs.bytes_FieldLaws as bytes_FieldLaws
