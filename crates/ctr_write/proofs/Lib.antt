pub mod Steps
pub mod Reading
pub mod Narrow
pub mod Refusing
pub mod Extended
pub mod Ending
pub mod Used
pub mod Turning
pub mod Carried
pub use Rattle.ctr_extend.proofs as ctr_extend
pub use Rattle.ctr_extend.proofs.walk_Joins as walk_Joins
