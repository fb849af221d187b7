pub mod OneRecord
pub mod Damage
pub mod Along
pub mod Tables
pub mod Columns
pub use Rattle.ctr_store.specs.Store as store_Store
pub use Rattle.ctr_record_effects.specs.Changing as record_effects_Changing
pub use Rattle.ctr_store.specs.base_Base as base_Base
pub use Rattle.ctr_store.specs.base_growing_TheConstants as base_growing_TheConstants
pub use Rattle.ctr_store.specs.contracts.store.Store as store_contracts_store_Store
pub use Rattle.ctr_store.specs.Parts as store_Parts
pub use Rattle.ctr_record_effects.specs.Standing as record_effects_Standing
pub use Rattle.ctr_record_effects.specs.States as record_effects_States
pub use Rattle.ctr_store.specs.RecordChecks as store_RecordChecks
pub use Rattle.ctr_record_effects.specs.ctr_redo.Overlaid as redo_Overlaid
pub use Rattle.ctr_record_effects.specs.ctr_redo.States as redo_States
pub use Rattle.ctr_store.specs.directory_Chains as directory_Chains
pub use Rattle.ctr_store.specs.directory_Keys as directory_Keys
