pub mod Left
pub mod Turns
pub mod Series
pub mod Keeping
pub mod Naming
pub use Rattle.ctr_rollback.specs.stops_Stops as stops_Stops
pub use Rattle.ctr_rollback.specs.stops_World as stops_World
pub use Rattle.ctr_rollback.specs.page_turns_Acts as page_turns_Acts
pub use Rattle.ctr_rollback.specs.page_turns_Rooms as page_turns_Rooms
pub use Rattle.ctr_rollback.specs.page_turns_Turns as page_turns_Turns
pub use Rattle.ctr_rollback.specs.kept_Turns as kept_Turns
pub use Rattle.ctr_rollback.specs.kept_Undo as kept_Undo
pub use Rattle.ctr_rollback.specs.kept_Walk as kept_Walk
pub use Rattle.ctr_walk.specs.Damage as walk_Damage
pub use Rattle.ctr_rollback.specs.stops_Fronts as stops_Fronts
