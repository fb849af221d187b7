pub mod Copies
pub mod Stages
pub mod Extending
pub mod Keeping
pub mod Laying
pub mod Steps
pub mod Carrying
pub use Rattle.ctr_extend.specs as ctr_extend
