pub mod Looking
pub mod Reading
pub mod Answered
pub mod Changers
pub mod Scanning
pub mod LastChange
pub use Rattle.ctr_chain.proofs.ctr_pvs.Told as pvs_Told
pub use Rattle.ctr_chain.proofs.passed_Pagewise as passed_Pagewise
pub use Rattle.ctr_catalog.proofs.Searched as catalog_Searched
pub use Rattle.ctr_paged.proofs.names_Entries as names_Entries
pub use Rattle.ctr_paged.proofs.names_Held as names_Held
pub use Rattle.ctr_paged.proofs.names_Search as names_Search
pub use Rattle.ctr_paged.proofs.Tables as paged_Tables
