pub mod Image
pub mod Crash
pub mod Device
pub mod TornLaws
pub mod Silent
pub use Rattle.ctr_types.specs.Damage as types_Damage
pub use Rattle.ctr_types.specs.declared.file.File as types_File
pub use Rattle.ctr_types.specs.Faults as types_Faults
