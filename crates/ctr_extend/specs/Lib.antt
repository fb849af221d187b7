pub mod Ways
pub mod Steps
pub mod Keeping
pub use Rattle.ctr_undamaged.specs.Undamaged as undamaged_Undamaged
pub use Rattle.ctr_undamaged.specs.chain_Seeking as chain_Seeking
pub use Rattle.ctr_stops.specs.World as stops_World
pub use Rattle.ctr_stops.specs.kept_Carried as kept_Carried
pub use Rattle.ctr_stops.specs.kept_Tables as kept_Tables
pub use Rattle.ctr_stops.specs.kept_Turns as kept_Turns
pub use Rattle.ctr_stops.specs.kept_Walk as kept_Walk
pub use Rattle.ctr_page_turns.specs.Acts as page_turns_Acts
pub use Rattle.ctr_page_turns.specs.Rooms as page_turns_Rooms
pub use Rattle.ctr_page_turns.specs.Turns as page_turns_Turns
pub use Rattle.ctr_undamaged.specs.heap_Finding as heap_Finding
pub use Rattle.ctr_undamaged.specs.heap_Ways as heap_Ways
pub use Rattle.ctr_undamaged.specs.heap_Writing as heap_Writing
pub use Rattle.ctr_undamaged.specs.heap_SlotSought.TheVariants as heap_SlotSought_TheVariants
pub use Rattle.ctr_undamaged.specs.heap_Way as heap_Way
pub use Rattle.ctr_undamaged.specs.pvs_Along as pvs_Along
pub use Rattle.ctr_undamaged.specs.pvs_Slots as pvs_Slots
pub use Rattle.ctr_undamaged.specs.pvs_Writing as pvs_Writing
pub use Rattle.ctr_undamaged.specs.pvs_LentSlot as pvs_LentSlot
pub use Rattle.ctr_page_turns.specs.passed_Laid as passed_Laid
pub use Rattle.ctr_page_turns.specs.passed_Logged as passed_Logged
pub use Rattle.ctr_page_turns.specs.actions_Actions as actions_Actions
pub use Rattle.ctr_stops.specs.actions_Facts as actions_Facts
pub use Rattle.ctr_page_turns.specs.actions_Sites as actions_Sites
pub use Rattle.ctr_page_turns.specs.walk_Damage as walk_Damage
pub use Rattle.ctr_page_turns.specs.walk_OneRecord as walk_OneRecord
pub use Rattle.ctr_page_turns.specs.walk_Tables as walk_Tables
pub use Rattle.ctr_undamaged.specs.record_effects_Changing as record_effects_Changing
pub use Rattle.ctr_page_turns.specs.record_effects_Standing as record_effects_Standing
pub use Rattle.ctr_page_turns.specs.record_effects_States as record_effects_States
pub use Rattle.ctr_page_turns.specs.record_laws_Owed as record_laws_Owed
pub use Rattle.ctr_stops.specs.store_Store as store_Store
