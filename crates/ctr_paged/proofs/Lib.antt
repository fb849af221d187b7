pub mod Tables
pub mod Carry
pub mod Opened
pub mod Pages
pub mod Rows
pub mod Fates
pub mod Aborts
pub mod Turns
pub mod Catalog
pub mod Emptied
pub mod Begun
pub mod Shown
pub mod Moved
pub mod Opening
pub use Rattle.ctr_actions.proofs.Items as actions_Items
pub use Rattle.ctr_actions.proofs.Opens as actions_Opens
pub use Rattle.ctr_actions.proofs.Order as actions_Order
pub use Rattle.ctr_actions.proofs.Slots as actions_Slots
pub use Rattle.ctr_actions.proofs.Stays as actions_Stays
pub use Rattle.ctr_actions.proofs.area_Buckets as area_Buckets
pub use Rattle.ctr_names.proofs.record_laws_Begin as record_laws_Begin
pub use Rattle.ctr_names.proofs.record_laws_Heads as record_laws_Heads
pub use Rattle.ctr_actions.proofs.record_laws_Items as record_laws_Items
pub use Rattle.ctr_names.proofs.record_laws_Leaving as record_laws_Leaving
pub use Rattle.ctr_actions.proofs.record_laws_Members as record_laws_Members
pub use Rattle.ctr_names.proofs.record_laws_Undone as record_laws_Undone
pub use Rattle.ctr_actions.proofs.record_laws_Xids as record_laws_Xids
pub use Rattle.ctr_names.proofs.record_laws_Gathering as record_laws_Gathering
pub use Rattle.ctr_names.proofs.record_laws_Latest as record_laws_Latest
pub use Rattle.ctr_names.proofs.record_laws_Slots as record_laws_Slots
pub use Rattle.ctr_sessions.proofs.Own as sessions_Own
pub use Rattle.ctr_names.proofs.Chains as names_Chains
pub use Rattle.ctr_names.proofs.Entries as names_Entries
pub use Rattle.ctr_names.proofs.Names as names_Names
pub use Rattle.ctr_names.proofs.Ranked as names_Ranked
pub use Rattle.ctr_names.proofs.Search as names_Search
pub use Rattle.ctr_names.proofs.Held as names_Held
