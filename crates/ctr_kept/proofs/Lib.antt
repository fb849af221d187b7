pub mod Opening
pub mod Undo
pub mod Carried
pub mod Tables
pub mod Walking
pub mod LeftBy
pub mod Turning
pub mod SessionTurns
pub mod RecoveryTurns
pub mod Beginning
pub mod Answering
pub mod Nobody
pub mod Rolling
pub mod Seated
pub use Rattle.ctr_paged.proofs.Opened as paged_Opened
pub use Rattle.ctr_legal.proofs.Answered as legal_Answered
pub use Rattle.ctr_legal.proofs.Tapes as legal_Tapes
