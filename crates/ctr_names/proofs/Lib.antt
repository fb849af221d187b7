pub mod Later
pub mod Entries
pub mod Chains
pub mod Shape
pub mod Scan
pub mod Names
pub mod Catalog
pub mod Items
pub mod Owner
pub mod Rows
pub mod Whole
pub mod Order
pub mod Held
pub mod Holding
pub mod Stand
pub mod Front
pub mod Ranked
pub mod Fates
pub mod Search
pub mod Told
pub mod Making
pub mod Unmaking
pub mod Past
pub mod Dying
pub mod Agree
pub use Rattle.ctr_record_laws.proofs.Abort as record_laws_Abort
pub use Rattle.ctr_record_laws.proofs.Begin as record_laws_Begin
pub use Rattle.ctr_record_laws.proofs.Commit as record_laws_Commit
pub use Rattle.ctr_record_laws.proofs.Create as record_laws_Create
pub use Rattle.ctr_record_laws.proofs.Drop as record_laws_Drop
pub use Rattle.ctr_record_laws.proofs.Entry as record_laws_Entry
pub use Rattle.ctr_record_laws.proofs.EntryLaws as record_laws_EntryLaws
pub use Rattle.ctr_record_laws.proofs.Forget as record_laws_Forget
pub use Rattle.ctr_record_laws.proofs.Gathering as record_laws_Gathering
pub use Rattle.ctr_record_laws.proofs.Heads as record_laws_Heads
pub use Rattle.ctr_record_laws.proofs.Latest as record_laws_Latest
pub use Rattle.ctr_record_laws.proofs.Leaving as record_laws_Leaving
pub use Rattle.ctr_record_laws.proofs.RowLaw as record_laws_RowLaw
pub use Rattle.ctr_record_laws.proofs.Shown as record_laws_Shown
pub use Rattle.ctr_record_laws.proofs.Slots as record_laws_Slots
pub use Rattle.ctr_record_laws.proofs.TrimLaw as record_laws_TrimLaw
pub use Rattle.ctr_record_laws.proofs.Uncreate as record_laws_Uncreate
pub use Rattle.ctr_record_laws.proofs.Undone as record_laws_Undone
pub use Rattle.ctr_record_laws.proofs.Undrop as record_laws_Undrop
pub use Rattle.ctr_record_laws.proofs.area_Made as area_Made
pub use Rattle.ctr_record_laws.proofs.versions_Keys as versions_Keys
pub use Rattle.ctr_record_laws.proofs.versions_Written as versions_Written
pub use Rattle.ctr_record_laws.proofs.page_Searches as page_Searches
pub use Rattle.ctr_record_laws.proofs.Cleaned as record_laws_Cleaned
