pub mod OneRecord
pub mod Told
pub mod Sought
pub mod Telling
pub mod Freeing
pub mod Lent
pub mod Showing
pub mod LentSlots
pub mod Made
pub use Rattle.ctr_walk.proofs.Damages as walk_Damages
pub use Rattle.ctr_walk.proofs.Joins as walk_Joins
pub use Rattle.ctr_walk.proofs.Limits as walk_Limits
pub use Rattle.ctr_walk.proofs.PagesRead as walk_PagesRead
pub use Rattle.ctr_walk.proofs.Searches as walk_Searches
pub use Rattle.ctr_walk.proofs.Records as walk_Records
pub use Rattle.ctr_passed.proofs.Pagewise as passed_Pagewise
