pub mod Entries
pub mod Free
pub mod Writing
pub mod Finding
pub mod Columns
pub use Rattle.ctr_names.specs.Held as names_Held
pub use Rattle.ctr_alloc.specs.record_effects_Changing as record_effects_Changing
pub use Rattle.ctr_alloc.specs.Free as alloc_Free
pub use Rattle.ctr_alloc.specs.declared.search.NextFree as alloc_NextFree
