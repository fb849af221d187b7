pub mod Table
pub mod Reading
pub mod Writing
pub mod Entries
pub mod Along
pub mod Lending
pub mod Showing
pub mod Slots
pub use Rattle.ctr_passed.specs.record_effects_States as record_effects_States
pub use Rattle.ctr_walk.specs.Damage as walk_Damage
pub use Rattle.ctr_walk.specs.Tables as walk_Tables
pub use Rattle.ctr_walk.specs.declared.table.TableOf as walk_TableOf
pub use Rattle.ctr_walk.specs.store_Parts as store_Parts
pub use Rattle.ctr_walk.specs.store_Store as store_Store
pub use Rattle.ctr_passed.specs.redo_States as redo_States
pub use Rattle.ctr_walk.specs.base_Base as base_Base
pub use Rattle.ctr_walk.specs.base_growing_TheConstants as base_growing_TheConstants
pub use Rattle.ctr_passed.specs.area_Checked as area_Checked
pub use Rattle.ctr_passed.specs.area_Reading as area_Reading
pub use Rattle.ctr_passed.specs.actions_Actions as actions_Actions
pub use Rattle.ctr_passed.specs.actions_Sites as actions_Sites
pub use Rattle.ctr_walk.specs.OneRecord as walk_OneRecord
pub use Rattle.ctr_walk.specs.record_effects_Changing as record_effects_Changing
pub use Rattle.ctr_passed.specs.record_effects_Standing as record_effects_Standing
pub use Rattle.ctr_passed.specs.record_laws_Loose as record_laws_Loose
pub use Rattle.ctr_passed.specs.record_laws_Owed as record_laws_Owed
pub use Rattle.ctr_passed.specs.area_Areas as area_Areas
pub use Rattle.ctr_passed.specs.area_Chains as area_Chains
pub use Rattle.ctr_passed.specs.area_Changes as area_Changes
pub use Rattle.ctr_passed.specs.area_Images as area_Images
pub use Rattle.ctr_passed.specs.area_Sound as area_Sound
