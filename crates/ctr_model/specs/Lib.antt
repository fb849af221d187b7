pub mod Maps
pub mod Database
pub mod State
pub mod Refusals
pub mod Reply
pub mod Tape
pub mod Texts
pub mod Laws
pub mod Grammar
pub mod Language
pub mod Places
pub mod Lines
pub use Rattle.ctr_types.specs.declared.statement.Statement as types_Statement
pub use Rattle.ctr_types.specs.declared.tape.Act.TheVariants as types_Act_TheVariants
pub use Rattle.ctr_types.specs.declared.tape.Reply.TheVariants as types_Reply_TheVariants
pub use Rattle.ctr_types.specs.declared.value.Row as types_Row
pub use Rattle.ctr_types.specs.declared.tape.Entry as types_Entry
pub use Rattle.ctr_types.specs.declared.value.Value as types_Value
pub use Rattle.ctr_types.specs.Names as types_Names
pub use Rattle.ctr_types.specs.declared.value.Column as types_Column
pub use Rattle.ctr_types.specs.declared.value.Kind as types_Kind
