pub mod Left
pub mod Cut
pub mod Reading
pub mod Logged
pub mod Freed
pub use Rattle.ctr_undamaged.proofs.Inside as undamaged_Inside
pub use Rattle.ctr_page_turns.proofs.Going as page_turns_Going
