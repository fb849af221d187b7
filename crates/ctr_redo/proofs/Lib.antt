pub mod PageLaws
pub mod StateLaws
pub mod FitLaws
pub mod Generations
pub mod ImageLaws
pub mod GrowthLaws
pub mod NewLaws
pub mod BeginLaws
pub mod DropLaws
pub use Rattle.ctr_log.proofs.ForgetLaws as log_ForgetLaws
pub use Rattle.ctr_log.proofs.KeptLaws as log_KeptLaws
pub use Rattle.ctr_log.proofs.StartLemmas as log_StartLemmas
pub use Rattle.ctr_log.proofs.home_HomeLemmas as home_HomeLemmas
pub use Rattle.ctr_pool.proofs.FrameLaws as pool_FrameLaws
pub use Rattle.ctr_meta.proofs.NeedLaws as meta_NeedLaws
pub use Rattle.ctr_meta.proofs.XidLaws as meta_XidLaws
pub use Rattle.ctr_log.proofs.LogLemmas as log_LogLemmas
pub use Rattle.ctr_log.proofs.SoundLaws as log_SoundLaws
pub use Rattle.ctr_log.proofs.VisitLaws as log_VisitLaws
pub use Rattle.ctr_log.proofs.VisitLemmas as log_VisitLemmas
