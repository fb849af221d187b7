pub mod Homes
pub mod Base
pub mod LogLaws
pub mod BaseLaws
pub mod KeptLaws
pub mod Opening
pub mod Extent
pub mod Generations
pub mod Growth
pub use Rattle.ctr_redo.specs.Fitting as redo_Fitting
pub use Rattle.ctr_redo.specs.Images as redo_Images
pub use Rattle.ctr_redo.specs.Overlaid as redo_Overlaid
pub use Rattle.ctr_redo.specs.States as redo_States
pub use Rattle.ctr_redo.specs.ctr_pool.Below as pool_Below
pub use Rattle.ctr_redo.specs.ctr_pool.Frames as pool_Frames
pub use Rattle.ctr_redo.specs.ctr_pool.Over as pool_Over
pub use Rattle.ctr_redo.specs.ctr_pool.Pages as pool_Pages
pub use Rattle.ctr_redo.specs.ctr_pool.declared.frame.Frame as pool_Frame
pub use Rattle.ctr_redo.specs.ctr_meta.Effects as meta_Effects
pub use Rattle.ctr_redo.specs.ctr_meta.Kept as meta_Kept
pub use Rattle.ctr_redo.specs.ctr_meta.Needs as meta_Needs
pub use Rattle.ctr_redo.specs.ctr_meta.Tables as meta_Tables
pub use Rattle.ctr_redo.specs.log_Fresh as log_Fresh
pub use Rattle.ctr_redo.specs.log_Kept as log_Kept
pub use Rattle.ctr_redo.specs.log_LogChecks as log_LogChecks
pub use Rattle.ctr_redo.specs.log_Logs as log_Logs
pub use Rattle.ctr_redo.specs.log_Opening as log_Opening
pub use Rattle.ctr_redo.specs.log_Reading as log_Reading
pub use Rattle.ctr_redo.specs.log_Visits as log_Visits
pub use Rattle.ctr_redo.specs.log_OpenError as log_OpenError
pub use Rattle.ctr_redo.specs.log_ReadError as log_ReadError
pub use Rattle.ctr_redo.specs.log_Visit as log_Visit
pub use Rattle.ctr_redo.specs.log_VisitError as log_VisitError
pub use Rattle.ctr_redo.specs.ctr_home as ctr_home
