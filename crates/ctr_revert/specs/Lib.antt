pub mod Reverting
pub mod Taking
pub use Rattle.ctr_pvs.specs.record_effects_Standing as record_effects_Standing
