pub mod Behind
pub mod Cleared
pub mod Made
pub mod Marked
pub mod Bytes
pub mod Entered
pub mod Fresh
pub mod Placed
pub mod Places
pub mod Written
pub mod InEntry
pub mod Walked
pub mod Buckets
pub use Rattle.ctr_versions.proofs as ctr_versions
pub use Rattle.ctr_meta.proofs.XidLaws as meta_XidLaws
pub use Rattle.ctr_versions.proofs.model_Sessions as model_Sessions
pub use Rattle.ctr_page.proofs.Back as page_Back
pub use Rattle.ctr_page.proofs.Entries as page_Entries
pub use Rattle.ctr_page.proofs.Holding as page_Holding
pub use Rattle.ctr_page.proofs.Searches as page_Searches
pub use Rattle.ctr_page.proofs.ctr_rec.Laws as rec_Laws
pub use Rattle.ctr_page.proofs.Passing as page_Passing
