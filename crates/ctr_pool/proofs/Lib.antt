pub mod FrameLaws
pub mod AgeLaws
pub mod PlaceLaws
pub mod PlacedLaws
pub mod MemoryLaws
