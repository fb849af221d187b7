pub mod Table
pub mod Parts
pub mod Spelling
pub mod Damage
pub mod Checkpoint
pub mod Members
pub mod Records
pub mod Read
pub use Rattle.ctr_types.specs.Names as types_Names
pub use Rattle.ctr_types.specs.declared.value.Column as types_Column
pub use Rattle.ctr_types.specs.declared.value.Kind as types_Kind
pub use Rattle.ctr_types.specs.declared.value.Value.TheVariants as types_Value_TheVariants
pub use Rattle.ctr_bytes.specs.Fields as bytes_Fields
pub use Rattle.ctr_bytes.specs.Following as bytes_Following
pub use Rattle.ctr_bytes.specs as ctr_bytes
