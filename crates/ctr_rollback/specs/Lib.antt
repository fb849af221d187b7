pub mod Rolling
pub mod Series
pub mod Keeping
pub use Rattle.ctr_catalog.specs as ctr_catalog
pub use Rattle.ctr_stops.specs.World as stops_World
pub use Rattle.ctr_txn.specs.paged_Moving as paged_Moving
pub use Rattle.ctr_page_turns.specs.Acts as page_turns_Acts
pub use Rattle.ctr_page_turns.specs.Rooms as page_turns_Rooms
pub use Rattle.ctr_page_turns.specs.Turns as page_turns_Turns
pub use Rattle.ctr_stops.specs.kept_Turns as kept_Turns
pub use Rattle.ctr_stops.specs.kept_Undo as kept_Undo
pub use Rattle.ctr_stops.specs.kept_Walk as kept_Walk
pub use Rattle.ctr_stops.specs.Pages as stops_Pages
pub use Rattle.ctr_stops.specs.kept_Carried as kept_Carried
pub use Rattle.ctr_stops.specs.kept_Tables as kept_Tables
pub use Rattle.ctr_page_turns.specs.record_effects_States as record_effects_States
pub use Rattle.ctr_stops.specs.store_Store as store_Store
pub use Rattle.ctr_page_turns.specs.actions_Actions as actions_Actions
pub use Rattle.ctr_stops.specs.actions_Facts as actions_Facts
pub use Rattle.ctr_record_laws.specs.Owed as record_laws_Owed
pub use Rattle.ctr_stops.specs.Stops as stops_Stops
pub use Rattle.ctr_txn.specs.Calls as txn_Calls
pub use Rattle.ctr_txn.specs.Held as txn_Held
pub use Rattle.ctr_txn.specs.Numbered as txn_Numbered
pub use Rattle.ctr_txn.specs.Rooms as txn_Rooms
pub use Rattle.ctr_txn.specs.Steps as txn_Steps
pub use Rattle.ctr_page_turns.specs.walk_OneRecord as walk_OneRecord
pub use Rattle.ctr_txn.specs.declared.txn.Asked as txn_Asked
pub use Rattle.ctr_stops.specs.Fronts as stops_Fronts
