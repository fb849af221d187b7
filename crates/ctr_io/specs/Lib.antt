pub mod Outside
pub mod Memory
pub use Rattle.ctr_types.specs.Faults as types_Faults
