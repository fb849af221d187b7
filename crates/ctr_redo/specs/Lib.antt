pub mod Overlaid
pub mod States
pub mod Fitting
pub mod Images
pub use Rattle.ctr_pool.specs as ctr_pool
pub use Rattle.ctr_meta.specs as ctr_meta
pub use Rattle.ctr_pool.specs.ctr_disk as ctr_disk
pub use Rattle.ctr_pool.specs.rec_Overlay as rec_Overlay
pub use Rattle.ctr_meta.specs.rec_Record as rec_Record
pub use Rattle.ctr_log.specs.Kept as log_Kept
pub use Rattle.ctr_log.specs.Logs as log_Logs
pub use Rattle.ctr_log.specs.Reading as log_Reading
pub use Rattle.ctr_meta.specs.rec_Read as rec_Read
pub use Rattle.ctr_log.specs.home_Blocks as home_Blocks
pub use Rattle.ctr_log.specs.home_Checks as home_Checks
pub use Rattle.ctr_log.specs.home_Reading as home_Reading
pub use Rattle.ctr_log.specs.home_Roots as home_Roots
pub use Rattle.ctr_log.specs.home_Writing as home_Writing
pub use Rattle.ctr_log.specs.home_Block.TheVariants as home_Block_TheVariants
pub use Rattle.ctr_log.specs.home_Home as home_Home
pub use Rattle.ctr_log.specs.home_Check as home_Check
pub use Rattle.ctr_log.specs.home_Root as home_Root
pub use Rattle.ctr_log.specs.Fresh as log_Fresh
pub use Rattle.ctr_log.specs.LogChecks as log_LogChecks
pub use Rattle.ctr_log.specs.Opening as log_Opening
pub use Rattle.ctr_log.specs.Visits as log_Visits
pub use Rattle.ctr_log.specs.declared.opening.OpenError as log_OpenError
pub use Rattle.ctr_log.specs.declared.reading.ReadError as log_ReadError
pub use Rattle.ctr_log.specs.declared.visitor.Visit as log_Visit
pub use Rattle.ctr_log.specs.declared.visitor.VisitError as log_VisitError
pub use Rattle.ctr_log.specs.ctr_home as ctr_home
pub use Rattle.ctr_log.proofs.KeptLaws as log_KeptLaws
