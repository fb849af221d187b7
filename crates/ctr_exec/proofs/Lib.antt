pub mod Places
pub mod Points
pub mod Replies
pub mod Seats
pub mod Shown
pub mod Entered
pub mod Turned
pub mod Answered
pub mod Answering
pub mod Fresh
pub mod Going
pub mod Beginning
pub mod Noting
pub mod Released
pub mod Ordered
pub mod Fewer
pub use Rattle.ctr_control.proofs as ctr_control
pub use Rattle.ctr_control.proofs.ctr_writing as ctr_writing
pub use Rattle.ctr_control.proofs.ctr_session_world as ctr_session_world
