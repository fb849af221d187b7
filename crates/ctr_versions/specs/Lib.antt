pub mod Chains
pub mod Changes
pub mod Keys
pub mod Listing
pub mod Versions
pub mod Xids
pub mod Engine
pub mod Steps
pub mod Laws
pub mod Loading
pub mod Heads
pub mod Undoing
pub use Rattle.ctr_model.specs as ctr_model
pub use Rattle.ctr_model.specs.types_Row as types_Row
