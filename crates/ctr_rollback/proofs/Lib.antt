pub mod Records
pub mod Others
pub mod Worlds
pub mod Running
pub use Rattle.ctr_txn.proofs as ctr_txn
pub use Rattle.ctr_stops.proofs.kept_Undo as kept_Undo
pub use Rattle.ctr_stops.proofs.Blanks as stops_Blanks
pub use Rattle.ctr_stops.proofs.kept_Answering as kept_Answering
pub use Rattle.ctr_stops.proofs.kept_Tables as kept_Tables
pub use Rattle.ctr_stops.proofs.kept_Turning as kept_Turning
pub use Rattle.ctr_stops.proofs.kept_Walking as kept_Walking
pub use Rattle.ctr_record_laws.proofs.Xids as record_laws_Xids
pub use Rattle.ctr_stops.proofs.Fronts as stops_Fronts
pub use Rattle.ctr_stops.proofs.Opened as stops_Opened
