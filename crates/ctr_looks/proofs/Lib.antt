pub mod Looking
pub mod Granted
pub mod Unrefused
pub mod Rooms
pub mod Finding
pub mod Staying
pub mod Leaving
pub mod Tabled
pub mod Naming
pub mod Promised
pub use Rattle.ctr_session_world.proofs.ctr_told as ctr_told
pub use Rattle.ctr_session_world.proofs as ctr_session_world
pub use Rattle.ctr_session_world.proofs.ctr_write as ctr_write
pub use Rattle.ctr_asking.proofs.views_Looking as views_Looking
pub use Rattle.ctr_session_world.proofs.kept_Tables as kept_Tables
pub use Rattle.ctr_session_world.proofs.kept_Walking as kept_Walking
