pub mod Pages
pub mod Below
pub mod Frames
pub mod Kept
pub mod Over
pub mod Inside
pub mod Memory
pub use Rattle.ctr_rec.specs.declared.record.Overlay as rec_Overlay
pub use Rattle.ctr_disk.specs as ctr_disk
