pub mod Seeing
pub use Rattle.ctr_types.specs.declared.value.Schema as types_Schema
pub use Rattle.ctr_types.specs.declared.xid.Fate as types_Fate
