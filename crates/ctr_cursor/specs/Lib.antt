pub mod Pass
pub mod Standing
pub use Rattle.ctr_reading.specs.pvs_Slots as pvs_Slots
pub use Rattle.ctr_reading.specs.chain_Seeking as chain_Seeking
pub use Rattle.ctr_reading.specs.undamaged_Undamaged as undamaged_Undamaged
pub use Rattle.ctr_reading.specs.Gathering as reading_Gathering
pub use Rattle.ctr_reading.specs.declared.pages.PageSlots as reading_PageSlots
