pub mod Laid
pub mod Placing
pub mod Chains
pub use Rattle.ctr_area.proofs.ctr_versions as ctr_versions
pub use Rattle.ctr_area.proofs.InEntry as area_InEntry
pub use Rattle.ctr_area.proofs.Made as area_Made
pub use Rattle.ctr_area.proofs.Written as area_Written
pub use Rattle.ctr_redo.proofs.StateLaws as redo_StateLaws
pub use Rattle.ctr_area.proofs.Buckets as area_Buckets
pub use Rattle.ctr_area.proofs.Bytes as area_Bytes
pub use Rattle.ctr_area.proofs.page_Holding as page_Holding
pub use Rattle.ctr_area.proofs.page_Passing as page_Passing
pub use Rattle.ctr_area.proofs.Marked as area_Marked
