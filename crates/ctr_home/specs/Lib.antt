pub mod Blocks
pub mod Writing
pub mod Checks
pub mod Reading
pub mod Roots
pub use Rattle.ctr_disk.specs.Crash as disk_Crash
pub use Rattle.ctr_disk.specs.Device as disk_Device
pub use Rattle.ctr_disk.specs.Image as disk_Image
pub use Rattle.ctr_disk.specs.TornLaws as disk_TornLaws
pub use Rattle.ctr_disk.specs.declared.disk.Disk as disk_Disk
pub use Rattle.ctr_disk.specs.declared.fault.StoreFault as disk_StoreFault
pub use Rattle.ctr_bytes.specs.Fields as bytes_Fields
