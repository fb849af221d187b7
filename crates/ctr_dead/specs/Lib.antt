pub mod Titles
pub mod Unlinking
pub use Rattle.ctr_trim.specs.passed_Logged as passed_Logged
pub use Rattle.ctr_trim.specs.chain_Seeking as chain_Seeking
pub use Rattle.ctr_trim.specs.undamaged_Undamaged as undamaged_Undamaged
pub use Rattle.ctr_trim.specs.page_turns_Turns as page_turns_Turns
pub use Rattle.ctr_trim.specs.declared.slots.TrimWay as trim_TrimWay
pub use Rattle.ctr_trim.specs.Trimming as trim_Trimming
pub use Rattle.ctr_trim.specs.page_turns_Acts as page_turns_Acts
pub use Rattle.ctr_trim.specs.Cutting as trim_Cutting
pub use Rattle.ctr_trim.specs.passed_Laid as passed_Laid
pub use Rattle.ctr_trim.specs.heap_Finding as heap_Finding
pub use Rattle.ctr_trim.specs.heap_SlotSought as heap_SlotSought
pub use Rattle.ctr_trim.specs.page_turns_Rooms as page_turns_Rooms
