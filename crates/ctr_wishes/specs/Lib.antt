pub mod HeadMade
pub mod Heads
pub mod Preparing
pub mod Models
pub use Rattle.ctr_reading.specs as ctr_reading
pub use Rattle.ctr_reading.specs.ctr_views as ctr_views
pub use Rattle.ctr_reading.specs.chain_ReadRefusal as chain_ReadRefusal
pub use Rattle.ctr_reading.specs.paged_Shown as paged_Shown
pub use Rattle.ctr_reading.specs.actions_Actions as actions_Actions
pub use Rattle.ctr_reading.specs.actions_Sites as actions_Sites
