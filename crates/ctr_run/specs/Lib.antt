pub mod Running
pub mod Lines
pub mod Counting
pub mod Promises
pub mod Beside
pub use Rattle.ctr_world.specs as ctr_world
