pub mod Turns
pub mod Acts
pub mod Rooms
pub use Rattle.ctr_walk.specs.OneRecord as walk_OneRecord
pub use Rattle.ctr_passed.specs.Laid as passed_Laid
pub use Rattle.ctr_passed.specs.Logged as passed_Logged
pub use Rattle.ctr_walk.specs.record_effects_Standing as record_effects_Standing
pub use Rattle.ctr_walk.specs.record_effects_States as record_effects_States
pub use Rattle.ctr_passed.specs.actions_Actions as actions_Actions
pub use Rattle.ctr_passed.specs.actions_Records as actions_Records
pub use Rattle.ctr_passed.specs.actions_Sites as actions_Sites
pub use Rattle.ctr_passed.specs.redo_States as redo_States
pub use Rattle.ctr_walk.specs.base_Base as base_Base
pub use Rattle.ctr_walk.specs.Damage as walk_Damage
pub use Rattle.ctr_walk.specs.Tables as walk_Tables
pub use Rattle.ctr_passed.specs.record_laws_Owed as record_laws_Owed
pub use Rattle.ctr_walk.specs.store_Store as store_Store
