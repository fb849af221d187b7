pub mod Seeing
pub mod Looking
pub mod Seeking
pub mod Rows
pub mod Reading
pub mod Visible
pub use Rattle.ctr_pvs.specs as ctr_pvs
pub use Rattle.ctr_names.specs.record_laws_Bounds as record_laws_Bounds
