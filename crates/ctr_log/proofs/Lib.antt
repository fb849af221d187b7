pub mod LogLemmas
pub mod FlushLemmas
mod NextPlace
pub mod ReadLemmas
mod DamageLaws
pub mod BatchLemmas
pub mod VisitLemmas
pub mod VisitLaws
pub mod SoundLaws
pub mod InitLemmas
pub mod KeptLaws
pub mod StartLemmas
pub mod GenerationLemmas
mod KeptReading
pub mod ForgetLaws
pub use Rattle.ctr_home.proofs.HomeLemmas as home_HomeLemmas
