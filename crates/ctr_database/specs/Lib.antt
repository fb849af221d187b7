pub mod Database
pub use Rattle.ctr_run.specs as ctr_run
pub use Rattle.ctr_survey.specs as ctr_survey
