pub mod Lists
pub mod Owing
pub mod Worlds
pub mod Released
pub mod Staying
pub mod Read
pub use Rattle.ctr_rollback.proofs.stops_Fronts as stops_Fronts
pub use Rattle.ctr_rollback.proofs.stops_Opened as stops_Opened
pub use Rattle.ctr_rollback.proofs.kept_Walking as kept_Walking
