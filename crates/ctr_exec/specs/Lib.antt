pub mod Runners
pub mod Acting
pub mod Sessions
pub mod Order
pub use Rattle.ctr_control.specs as ctr_control
pub use Rattle.ctr_control.specs.ctr_writing as ctr_writing
pub use Rattle.ctr_control.specs.ctr_session_world as ctr_session_world
pub use Rattle.ctr_control.specs.txn_Held as txn_Held
pub use Rattle.ctr_control.specs.txn_Rooms as txn_Rooms
