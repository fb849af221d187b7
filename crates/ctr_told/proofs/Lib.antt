pub mod Counted
pub mod Facts
pub mod Idle
pub mod Acting
pub mod Rows
pub mod Unlogged
pub mod Counts
pub mod Tabled
pub mod Granting
pub mod Silent
pub mod Going
pub mod Answered
pub use Rattle.ctr_write.proofs.ctr_extend as ctr_extend
pub use Rattle.ctr_rollback.proofs as ctr_rollback
pub use Rattle.ctr_write.proofs as ctr_write
pub use Rattle.ctr_rollback.proofs.stops_Fronts as stops_Fronts
pub use Rattle.ctr_rollback.proofs.kept_Walking as kept_Walking
pub use Rattle.ctr_write.proofs.walk_Joins as walk_Joins
pub use Rattle.ctr_views.proofs.paged_Tables as paged_Tables
pub use Rattle.ctr_rollback.proofs.kept_Tables as kept_Tables
