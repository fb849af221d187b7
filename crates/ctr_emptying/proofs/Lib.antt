pub mod Reading
pub mod Remaining
pub mod Settled
pub mod Turning
pub use Rattle.ctr_clean.proofs.Listed as clean_Listed
pub use Rattle.ctr_cursor.proofs.Stays as cursor_Stays
pub use Rattle.ctr_clean.proofs.page_turns_Going as page_turns_Going
pub use Rattle.ctr_clean.proofs.Resting as clean_Resting
pub use Rattle.ctr_cursor.proofs.Leads as cursor_Leads
