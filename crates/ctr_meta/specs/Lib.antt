pub mod Tables
pub mod Items
pub mod Effects
pub mod Needs
pub mod Kept
pub mod XidList
pub mod Inside
pub mod Lists
pub mod Seen
pub use Rattle.ctr_rec.specs.ctr_bytes as ctr_bytes
pub use Rattle.ctr_rec.specs.Checkpoint as rec_Checkpoint
pub use Rattle.ctr_rec.specs.Members as rec_Members
pub use Rattle.ctr_rec.specs.Parts as rec_Parts
pub use Rattle.ctr_rec.specs.Read as rec_Read
pub use Rattle.ctr_rec.specs.Spelling as rec_Spelling
pub use Rattle.ctr_rec.specs.declared.record.Form as rec_Form
pub use Rattle.ctr_rec.specs.declared.record.Record as rec_Record
