pub mod Prints
pub mod Pieces
pub use Rattle.ctr_model.specs as ctr_model
pub use Rattle.ctr_model.specs.types_Names as types_Names
pub use Rattle.ctr_model.specs.types_Column as types_Column
pub use Rattle.ctr_model.specs.types_Kind as types_Kind
pub use Rattle.ctr_model.specs.types_Row as types_Row
pub use Rattle.ctr_model.specs.types_Value as types_Value
