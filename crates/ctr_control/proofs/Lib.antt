pub mod Begun
pub mod Asking
pub mod Gone
pub mod Others
pub mod Rolled
pub mod Answered
pub mod Unasked
pub use Rattle.ctr_writing.proofs as ctr_writing
pub use Rattle.ctr_writing.proofs.ctr_session_world as ctr_session_world
