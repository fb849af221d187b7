pub mod Marks
pub mod Rolling
pub mod Answers
pub use Rattle.ctr_writing.specs.ctr_session_world.ctr_rollback as ctr_rollback
pub use Rattle.ctr_writing.specs.ctr_session_world.stops_World as stops_World
pub use Rattle.ctr_writing.specs.ctr_session_world.kept_Turns as kept_Turns
pub use Rattle.ctr_writing.specs.ctr_session_world.kept_Walk as kept_Walk
pub use Rattle.ctr_writing.specs.ctr_session_world.txn_Held as txn_Held
pub use Rattle.ctr_writing.specs.ctr_session_world.txn_Rooms as txn_Rooms
pub use Rattle.ctr_writing.specs.ctr_session_world.txn_Steps as txn_Steps
pub use Rattle.ctr_writing.specs.ctr_session_world.txn_Asked as txn_Asked
pub use Rattle.ctr_writing.specs as ctr_writing
pub use Rattle.ctr_writing.specs.ctr_session_world as ctr_session_world
