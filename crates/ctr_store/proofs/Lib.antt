pub mod RecordLaws
pub mod BufferLaws
pub mod NumberLaws
pub mod PartsLaws
pub mod PlaceLaws
pub mod SeenLaws
pub mod PageCheckLaws
pub mod BringLaws
pub mod RedoLaws
pub mod RedoFinds
pub mod SoundLaws
pub mod OpenLaws
pub mod StoreLaws
mod Recalling
mod CreateLaws
pub mod Hardened
mod CheckpointLaws
mod GenerationLaws
pub use Rattle.ctr_base.proofs.RootLaws as base_RootLaws
pub use Rattle.ctr_rec.proofs.Reading as rec_Reading
pub use Rattle.ctr_base.proofs.GrowLaws as base_GrowLaws
