pub mod Trimming
pub mod Cutting
pub use Rattle.ctr_undamaged.specs.Undamaged as undamaged_Undamaged
pub use Rattle.ctr_passed.specs.Logged as passed_Logged
pub use Rattle.ctr_page_turns.specs.Acts as page_turns_Acts
pub use Rattle.ctr_undamaged.specs.chain_Seeking as chain_Seeking
pub use Rattle.ctr_page_turns.specs.Turns as page_turns_Turns
pub use Rattle.ctr_passed.specs.Laid as passed_Laid
pub use Rattle.ctr_undamaged.specs.heap_Finding as heap_Finding
pub use Rattle.ctr_undamaged.specs.heap_SlotSought as heap_SlotSought
pub use Rattle.ctr_page_turns.specs.Rooms as page_turns_Rooms
