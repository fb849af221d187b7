pub mod Laid
pub mod Logged
pub mod Words
pub use Rattle.ctr_actions.specs.Actions as actions_Actions
pub use Rattle.ctr_actions.specs.Facts as actions_Facts
pub use Rattle.ctr_actions.specs.Records as actions_Records
pub use Rattle.ctr_actions.specs.Sites as actions_Sites
pub use Rattle.ctr_actions.specs.ctr_record_effects.Standing as record_effects_Standing
pub use Rattle.ctr_actions.specs.ctr_record_effects.States as record_effects_States
pub use Rattle.ctr_actions.specs.area_Chains as area_Chains
pub use Rattle.ctr_actions.specs.area_Images as area_Images
pub use Rattle.ctr_actions.specs.area_Sound as area_Sound
pub use Rattle.ctr_actions.specs.page_Header as page_Header
pub use Rattle.ctr_actions.specs.record_laws_Owed as record_laws_Owed
pub use Rattle.ctr_actions.specs.ctr_redo.States as redo_States
pub use Rattle.ctr_actions.specs.area_Areas as area_Areas
pub use Rattle.ctr_actions.specs.area_Changes as area_Changes
pub use Rattle.ctr_actions.specs.area_Checked as area_Checked
pub use Rattle.ctr_actions.specs.area_Reading as area_Reading
pub use Rattle.ctr_actions.specs.meta_Tables as meta_Tables
pub use Rattle.ctr_actions.specs.record_laws_Loose as record_laws_Loose
