pub mod Carried
pub mod Tables
pub mod Undo
pub mod Walk
pub mod Turns
pub mod Words
pub use Rattle.ctr_paged.specs as ctr_paged
pub use Rattle.ctr_paged.specs.ctr_names as ctr_names
