pub mod Places
pub mod Reading
pub mod Making
pub mod Columns
pub mod Damage
pub mod Readable
pub mod Searching
pub mod Walking
pub use Rattle.ctr_value.specs as ctr_value
pub use Rattle.ctr_rec.specs as ctr_rec
pub use Rattle.ctr_rec.specs.types_Column as types_Column
pub use Rattle.ctr_rec.specs.types_Kind as types_Kind
