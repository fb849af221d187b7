pub mod Members
pub mod Along
pub mod Gathering
pub mod OneSlot
pub mod Slots
pub mod Kept
pub mod Bounds
pub mod Room
pub mod Pointers
pub mod Owned
pub mod Xids
pub mod Writes
pub mod Fitting
pub mod Written
pub mod Heads
pub mod RowLaw
pub mod Cleaned
pub mod RevertLaw
pub mod TrimLaw
pub mod CutLaw
pub mod EntryLaws
pub mod Items
pub mod Named
pub mod Owning
pub mod Away
pub mod Format
pub mod Ends
pub mod Firsts
pub mod Few
pub mod Links
pub mod Unlinks
pub mod Undone
pub mod Latest
pub mod Uncreate
pub mod Undrop
pub mod Drop
pub mod Fresh
pub mod Create
pub mod Shown
pub mod Entry
pub mod Begin
pub mod Grown
pub mod Leaving
pub mod Forget
pub mod Abort
pub mod Commit
pub mod Ways
pub mod Loosened
pub mod Steady
pub mod Unlinking
pub mod Chained
pub mod Elsewhere
pub mod Still
pub use Rattle.ctr_area.proofs.ctr_versions.Asked as versions_Asked
pub use Rattle.ctr_area.proofs.ctr_versions.Chains as versions_Chains
pub use Rattle.ctr_area.proofs.ctr_versions.Changes as versions_Changes
pub use Rattle.ctr_area.proofs.ctr_versions.Engine as versions_Engine
pub use Rattle.ctr_area.proofs.ctr_versions.Keys as versions_Keys
pub use Rattle.ctr_area.proofs.ctr_versions.Listing as versions_Listing
pub use Rattle.ctr_area.proofs.ctr_versions.Opened as versions_Opened
pub use Rattle.ctr_area.proofs.ctr_versions.Reading as versions_Reading
pub use Rattle.ctr_area.proofs.ctr_versions.Undoing as versions_Undoing
pub use Rattle.ctr_area.proofs.ctr_versions.Versions as versions_Versions
pub use Rattle.ctr_area.proofs.ctr_versions.Written as versions_Written
pub use Rattle.ctr_area.proofs.ctr_versions.Xids as versions_Xids
pub use Rattle.ctr_area.proofs.model_Sessions as model_Sessions
pub use Rattle.ctr_area.proofs.Buckets as area_Buckets
pub use Rattle.ctr_area.proofs.meta_XidLaws as meta_XidLaws
pub use Rattle.ctr_area.proofs.Bytes as area_Bytes
pub use Rattle.ctr_area.proofs.Places as area_Places
pub use Rattle.ctr_area.proofs.page_Back as page_Back
pub use Rattle.ctr_area.proofs.page_Entries as page_Entries
pub use Rattle.ctr_area.proofs.page_Holding as page_Holding
pub use Rattle.ctr_area.proofs.page_Searches as page_Searches
pub use Rattle.ctr_area.proofs.rec_Laws as rec_Laws
pub use Rattle.ctr_area.proofs.Made as area_Made
