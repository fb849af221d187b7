pub mod Owners
pub mod Items
pub mod Beside
pub mod Opens
pub mod Blanks
pub mod Slots
pub mod Latest
pub mod Needed
pub mod Stays
pub mod Gains
pub mod Order
pub mod Bounded
pub mod Bare
pub use Rattle.ctr_record_effects.proofs.Laid as record_effects_Laid
pub use Rattle.ctr_record_laws.proofs.Away as record_laws_Away
pub use Rattle.ctr_record_laws.proofs.Bounds as record_laws_Bounds
pub use Rattle.ctr_record_laws.proofs.Ends as record_laws_Ends
pub use Rattle.ctr_record_laws.proofs.Format as record_laws_Format
pub use Rattle.ctr_record_laws.proofs.Grown as record_laws_Grown
pub use Rattle.ctr_record_laws.proofs.Members as record_laws_Members
pub use Rattle.ctr_record_laws.proofs.Owned as record_laws_Owned
pub use Rattle.ctr_record_laws.proofs.Owning as record_laws_Owning
pub use Rattle.ctr_record_laws.proofs.Unlinks as record_laws_Unlinks
pub use Rattle.ctr_record_laws.proofs.Xids as record_laws_Xids
pub use Rattle.ctr_record_laws.proofs.area_Buckets as area_Buckets
pub use Rattle.ctr_record_laws.proofs.area_Bytes as area_Bytes
pub use Rattle.ctr_record_effects.proofs.area_InEntry as area_InEntry
pub use Rattle.ctr_record_effects.proofs.area_Made as area_Made
pub use Rattle.ctr_record_laws.proofs.area_Places as area_Places
pub use Rattle.ctr_record_effects.proofs.area_Written as area_Written
pub use Rattle.ctr_record_laws.proofs.versions_Keys as versions_Keys
pub use Rattle.ctr_record_laws.proofs.page_Back as page_Back
pub use Rattle.ctr_record_laws.proofs.page_Entries as page_Entries
pub use Rattle.ctr_record_laws.proofs.page_Holding as page_Holding
pub use Rattle.ctr_record_laws.proofs.page_Searches as page_Searches
pub use Rattle.ctr_record_laws.proofs.rec_Laws as rec_Laws
pub use Rattle.ctr_record_laws.proofs.Items as record_laws_Items
pub use Rattle.ctr_record_laws.proofs.Kept as record_laws_Kept
pub use Rattle.ctr_record_laws.proofs.Links as record_laws_Links
pub use Rattle.ctr_record_laws.proofs.RevertLaw as record_laws_RevertLaw
pub use Rattle.ctr_record_effects.proofs.area_Marked as area_Marked
pub use Rattle.ctr_record_laws.proofs.Along as record_laws_Along
pub use Rattle.ctr_record_laws.proofs.Few as record_laws_Few
pub use Rattle.ctr_record_laws.proofs.Firsts as record_laws_Firsts
pub use Rattle.ctr_record_laws.proofs.Room as record_laws_Room
