pub mod Standing
pub mod Resting
pub mod Alike
pub mod Numbers
pub mod Idling
pub mod Faults
pub mod Going
pub mod Changed
pub mod Ready
pub mod Disks
pub mod Left
pub mod Answered
pub use Rattle.ctr_told.proofs as ctr_told
pub use Rattle.ctr_told.proofs.ctr_write as ctr_write
pub use Rattle.ctr_told.proofs.ctr_rollback.Records as rollback_Records
pub use Rattle.ctr_told.proofs.ctr_rollback.Worlds as rollback_Worlds
pub use Rattle.ctr_told.proofs.kept_Walking as kept_Walking
pub use Rattle.ctr_told.proofs.paged_Tables as paged_Tables
pub use Rattle.ctr_told.proofs.kept_Tables as kept_Tables
