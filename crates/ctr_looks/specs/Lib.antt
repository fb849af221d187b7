pub mod Granting
pub mod Asked
pub mod Selecting
pub mod Locking
pub use Rattle.ctr_session_world.specs.ctr_told as ctr_told
pub use Rattle.ctr_session_world.specs as ctr_session_world
pub use Rattle.ctr_asking.specs.ctr_wishes as ctr_wishes
pub use Rattle.ctr_session_world.specs.ctr_write as ctr_write
pub use Rattle.ctr_session_world.specs.ctr_extend as ctr_extend
pub use Rattle.ctr_session_world.specs.ctr_ddl as ctr_ddl
pub use Rattle.ctr_asking.specs.ctr_wishes.ctr_views.Viewing as views_Viewing
pub use Rattle.ctr_session_world.specs.stops_World as stops_World
pub use Rattle.ctr_session_world.specs.paged_Paged as paged_Paged
pub use Rattle.ctr_session_world.specs.txn_Held as txn_Held
pub use Rattle.ctr_session_world.specs.txn_Numbered as txn_Numbered
pub use Rattle.ctr_session_world.specs.txn_Rooms as txn_Rooms
pub use Rattle.ctr_session_world.specs.txn_Steps as txn_Steps
pub use Rattle.ctr_session_world.specs.page_turns_Acts as page_turns_Acts
pub use Rattle.ctr_session_world.specs.page_turns_Rooms as page_turns_Rooms
pub use Rattle.ctr_session_world.specs.page_turns_Turns as page_turns_Turns
pub use Rattle.ctr_session_world.specs.kept_Carried as kept_Carried
pub use Rattle.ctr_session_world.specs.kept_Tables as kept_Tables
pub use Rattle.ctr_session_world.specs.kept_Turns as kept_Turns
pub use Rattle.ctr_session_world.specs.kept_Walk as kept_Walk
pub use Rattle.ctr_session_world.specs.walk_OneRecord as walk_OneRecord
pub use Rattle.ctr_asking.specs.ctr_wishes.actions_Actions as actions_Actions
pub use Rattle.ctr_session_world.specs.actions_Facts as actions_Facts
pub use Rattle.ctr_asking.specs.ctr_wishes.actions_Sites as actions_Sites
