pub mod Going
pub mod Telling
pub mod Acting
pub mod Rooms
pub mod Why
mod Counted
pub use Rattle.ctr_passed.proofs.actions_Latest as actions_Latest
pub use Rattle.ctr_walk.proofs.Damages as walk_Damages
pub use Rattle.ctr_walk.proofs.Entries as walk_Entries
pub use Rattle.ctr_walk.proofs.Joins as walk_Joins
