pub mod Free
pub use Rattle.ctr_actions.specs.Actions as actions_Actions
pub use Rattle.ctr_actions.specs.Sites as actions_Sites
pub use Rattle.ctr_walk.specs.store_Store as store_Store
pub use Rattle.ctr_walk.specs.Columns as walk_Columns
pub use Rattle.ctr_walk.specs.Damage as walk_Damage
pub use Rattle.ctr_walk.specs.OneRecord as walk_OneRecord
pub use Rattle.ctr_walk.specs.base_Base as base_Base
pub use Rattle.ctr_actions.specs.ctr_redo.States as redo_States
pub use Rattle.ctr_actions.specs.ctr_record_effects.Changing as record_effects_Changing
pub use Rattle.ctr_actions.specs.ctr_record_effects.States as record_effects_States
pub use Rattle.ctr_actions.specs.area_Reading as area_Reading
