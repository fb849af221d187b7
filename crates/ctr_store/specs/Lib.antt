pub mod Changes
pub mod Checkpoints
pub mod Numbers
pub mod Parts
pub mod PageChecks
pub mod Redo
pub mod RecordChecks
pub mod Inside
pub mod Opening
pub mod Store
pub mod StoreInside
pub mod Generations
pub mod StoreOpening
pub mod Creating
pub use Rattle.ctr_base.specs.ctr_home as ctr_home
pub use Rattle.ctr_base.specs.Base as base_Base
pub use Rattle.ctr_base.specs.redo_Images as redo_Images
pub use Rattle.ctr_base.specs.redo_States as redo_States
pub use Rattle.ctr_base.specs.meta_Effects as meta_Effects
pub use Rattle.ctr_base.specs.meta_Kept as meta_Kept
pub use Rattle.ctr_base.specs.meta_Needs as meta_Needs
pub use Rattle.ctr_rec.specs.Damage as rec_Damage
pub use Rattle.ctr_rec.specs.declared.decoding.BadRecord as rec_BadRecord
pub use Rattle.ctr_base.specs.declared.growing.TheConstants as base_growing_TheConstants
pub use Rattle.ctr_directory.specs.Chains as directory_Chains
pub use Rattle.ctr_directory.specs.Keys as directory_Keys
