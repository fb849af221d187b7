pub mod World
pub mod Told
pub mod Ready
pub use Rattle.ctr_told.specs as ctr_told
pub use Rattle.ctr_told.specs.ctr_write as ctr_write
pub use Rattle.ctr_told.specs.ctr_extend as ctr_extend
pub use Rattle.ctr_told.specs.ctr_ddl as ctr_ddl
pub use Rattle.ctr_told.specs.ctr_rollback as ctr_rollback
pub use Rattle.ctr_told.specs.stops_World as stops_World
pub use Rattle.ctr_told.specs.kept_Tables as kept_Tables
pub use Rattle.ctr_told.specs.kept_Turns as kept_Turns
pub use Rattle.ctr_told.specs.kept_Walk as kept_Walk
pub use Rattle.ctr_told.specs.paged_Moving as paged_Moving
pub use Rattle.ctr_told.specs.paged_Paged as paged_Paged
pub use Rattle.ctr_told.specs.page_turns_Acts as page_turns_Acts
pub use Rattle.ctr_told.specs.page_turns_Turns as page_turns_Turns
pub use Rattle.ctr_told.specs.txn_Calls as txn_Calls
pub use Rattle.ctr_told.specs.txn_Held as txn_Held
pub use Rattle.ctr_told.specs.txn_Numbered as txn_Numbered
pub use Rattle.ctr_told.specs.txn_Rooms as txn_Rooms
pub use Rattle.ctr_told.specs.txn_Steps as txn_Steps
pub use Rattle.ctr_told.specs.txn_Asked as txn_Asked
pub use Rattle.ctr_told.specs.walk_OneRecord as walk_OneRecord
pub use Rattle.ctr_told.specs.kept_Carried as kept_Carried
pub use Rattle.ctr_told.specs.actions_Facts as actions_Facts
pub use Rattle.ctr_told.specs.page_turns_Rooms as page_turns_Rooms
