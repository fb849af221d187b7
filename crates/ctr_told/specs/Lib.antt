pub mod Turning
pub mod Writing
pub mod Tables
pub use Rattle.ctr_write.specs as ctr_write
pub use Rattle.ctr_write.specs.ctr_extend as ctr_extend
pub use Rattle.ctr_ddl.specs as ctr_ddl
pub use Rattle.ctr_rollback.specs.page_turns_Turns as page_turns_Turns
pub use Rattle.ctr_rollback.specs.stops_Stops as stops_Stops
pub use Rattle.ctr_rollback.specs.stops_World as stops_World
pub use Rattle.ctr_rollback.specs.txn_Calls as txn_Calls
pub use Rattle.ctr_rollback.specs.txn_Held as txn_Held
pub use Rattle.ctr_rollback.specs.txn_Numbered as txn_Numbered
pub use Rattle.ctr_rollback.specs.txn_Rooms as txn_Rooms
pub use Rattle.ctr_rollback.specs.txn_Steps as txn_Steps
pub use Rattle.ctr_views.specs.paged_Paged as paged_Paged
pub use Rattle.ctr_rollback.specs.kept_Tables as kept_Tables
pub use Rattle.ctr_rollback.specs.kept_Turns as kept_Turns
pub use Rattle.ctr_rollback.specs.kept_Walk as kept_Walk
pub use Rattle.ctr_rollback.specs.actions_Facts as actions_Facts
pub use Rattle.ctr_views.specs.actions_Sites as actions_Sites
pub use Rattle.ctr_ddl.specs.walk_Damage as walk_Damage
pub use Rattle.ctr_rollback.specs.walk_OneRecord as walk_OneRecord
pub use Rattle.ctr_rollback.specs.record_effects_States as record_effects_States
pub use Rattle.ctr_rollback.specs.store_Store as store_Store
pub use Rattle.ctr_rollback.specs as ctr_rollback
pub use Rattle.ctr_rollback.specs.paged_Moving as paged_Moving
pub use Rattle.ctr_rollback.specs.page_turns_Acts as page_turns_Acts
pub use Rattle.ctr_rollback.specs.txn_Asked as txn_Asked
pub use Rattle.ctr_rollback.specs.kept_Carried as kept_Carried
pub use Rattle.ctr_rollback.specs.page_turns_Rooms as page_turns_Rooms
