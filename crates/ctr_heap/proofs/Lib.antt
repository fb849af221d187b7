pub mod Sought
pub mod Keyed
pub mod Telling
mod Known
mod Behind
pub mod OneRecord
pub mod Made
pub use Rattle.ctr_passed.proofs as ctr_passed
pub use Rattle.ctr_walk.proofs as ctr_walk
pub use Rattle.ctr_passed.proofs.record_laws_Along as record_laws_Along
pub use Rattle.ctr_passed.proofs.record_laws_Bounds as record_laws_Bounds
pub use Rattle.ctr_passed.proofs.record_laws_Ends as record_laws_Ends
pub use Rattle.ctr_passed.proofs.record_laws_Few as record_laws_Few
pub use Rattle.ctr_passed.proofs.record_laws_Firsts as record_laws_Firsts
pub use Rattle.ctr_passed.proofs.record_laws_Members as record_laws_Members
pub use Rattle.ctr_passed.proofs.record_laws_Owned as record_laws_Owned
pub use Rattle.ctr_passed.proofs.record_laws_Owning as record_laws_Owning
pub use Rattle.ctr_passed.proofs.record_laws_Room as record_laws_Room
pub use Rattle.ctr_passed.proofs.area_Buckets as area_Buckets
