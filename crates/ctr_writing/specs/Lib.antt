pub mod Wants
pub mod Rows
pub mod Tables
pub use Rattle.ctr_looks.specs as ctr_looks
pub use Rattle.ctr_looks.specs.ctr_session_world as ctr_session_world
