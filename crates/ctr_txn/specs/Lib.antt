pub mod Numbered
pub mod NumbersInside
pub mod Held
pub mod TxnsInside
pub mod Steps
pub mod Rooms
pub mod Calls
pub use Rattle.ctr_paged.specs.Paged as paged_Paged
pub use Rattle.ctr_paged.specs.Moving as paged_Moving
pub use Rattle.ctr_paged.specs.Shown as paged_Shown
