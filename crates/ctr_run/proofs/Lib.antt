mod Order
mod Turning
mod Between
pub mod Ends
pub mod Promises
mod Stepping
pub use Rattle.ctr_world.proofs as ctr_world
