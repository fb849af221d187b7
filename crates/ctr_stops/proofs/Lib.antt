pub mod Fronts
pub mod Survives
pub mod Turns
pub mod Opened
pub mod Together
pub mod Blanks
pub use Rattle.ctr_kept.proofs.Tables as kept_Tables
pub use Rattle.ctr_kept.proofs.Undo as kept_Undo
pub use Rattle.ctr_kept.proofs.Answering as kept_Answering
pub use Rattle.ctr_kept.proofs.Turning as kept_Turning
pub use Rattle.ctr_kept.proofs.Walking as kept_Walking
