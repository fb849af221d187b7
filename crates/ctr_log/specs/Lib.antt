pub mod Damage
pub mod Logs
pub mod LogFile
pub mod Reading
pub mod Fresh
pub mod Kept
pub mod Batch
pub mod Visits
pub mod LogChecks
pub mod Opening
pub use Rattle.ctr_home.specs.Blocks as home_Blocks
pub use Rattle.ctr_home.specs.Roots as home_Roots
pub use Rattle.ctr_home.specs.Writing as home_Writing
pub use Rattle.ctr_home.specs.declared.block.Block as home_Block
pub use Rattle.ctr_home.specs.declared.root.Root as home_Root
pub use Rattle.ctr_types.specs.declared.file.File as types_File
pub use Rattle.ctr_home.specs.Checks as home_Checks
pub use Rattle.ctr_home.specs.Reading as home_Reading
pub use Rattle.ctr_home.specs.declared.block.Home as home_Home
pub use Rattle.ctr_home.specs.declared.checks.Check as home_Check
pub use Rattle.ctr_home.specs as ctr_home
