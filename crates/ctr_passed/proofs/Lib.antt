pub mod Agreeing
pub mod Pagewise
pub mod Passing
pub mod Reshaped
pub mod Kept
pub mod Grown
pub mod Sound
pub mod Apart
pub mod Entries
pub mod Blank
pub mod Fresh
pub mod Slots
pub mod Placed
pub mod Owing
pub mod Putting
pub mod OwnPage
pub use Rattle.ctr_actions.proofs.record_laws_Bounds as record_laws_Bounds
pub use Rattle.ctr_actions.proofs.area_Buckets as area_Buckets
pub use Rattle.ctr_actions.proofs.area_Bytes as area_Bytes
pub use Rattle.ctr_actions.proofs.versions_Keys as versions_Keys
pub use Rattle.ctr_actions.proofs.area_Written as area_Written
pub use Rattle.ctr_actions.proofs.record_laws_Along as record_laws_Along
pub use Rattle.ctr_actions.proofs.record_laws_Ends as record_laws_Ends
pub use Rattle.ctr_actions.proofs.record_laws_Few as record_laws_Few
pub use Rattle.ctr_actions.proofs.record_laws_Firsts as record_laws_Firsts
pub use Rattle.ctr_actions.proofs.record_laws_Members as record_laws_Members
pub use Rattle.ctr_actions.proofs.record_laws_Owned as record_laws_Owned
pub use Rattle.ctr_actions.proofs.record_laws_Owning as record_laws_Owning
pub use Rattle.ctr_actions.proofs.record_laws_Room as record_laws_Room
pub use Rattle.ctr_actions.proofs.Latest as actions_Latest
