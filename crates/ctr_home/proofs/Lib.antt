pub mod CheckLemmas
pub mod HomeLemmas
pub mod ReadLemmas
pub mod RootLemmas
pub mod WriteLemmas
pub use Rattle.ctr_disk.proofs.Moments as disk_Moments
pub use Rattle.ctr_disk.proofs.Sections as disk_Sections
pub use Rattle.ctr_disk.proofs.Torn as disk_Torn
pub use Rattle.ctr_bytes.proofs.FieldLaws as bytes_FieldLaws
