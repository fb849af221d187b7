pub mod Slots
pub mod Writing
pub mod Finding
pub mod Ways
pub use Rattle.ctr_passed.specs as ctr_passed
pub use Rattle.ctr_walk.specs as ctr_walk
pub use Rattle.ctr_walk.specs.record_effects_Changing as record_effects_Changing
pub use Rattle.ctr_passed.specs.record_effects_States as record_effects_States
pub use Rattle.ctr_passed.specs.redo_States as redo_States
pub use Rattle.ctr_passed.specs.area_Areas as area_Areas
pub use Rattle.ctr_passed.specs.area_Chains as area_Chains
pub use Rattle.ctr_passed.specs.area_Changes as area_Changes
pub use Rattle.ctr_passed.specs.area_Checked as area_Checked
pub use Rattle.ctr_passed.specs.area_Images as area_Images
pub use Rattle.ctr_passed.specs.area_Reading as area_Reading
pub use Rattle.ctr_passed.specs.area_Sound as area_Sound
