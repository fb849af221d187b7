pub mod OneRecord
pub mod BitLaws
pub mod FirstPage
pub use Rattle.ctr_walk.proofs.Damages as walk_Damages
pub use Rattle.ctr_walk.proofs.Joins as walk_Joins
pub use Rattle.ctr_walk.proofs.Limits as walk_Limits
pub use Rattle.ctr_walk.proofs.PagesRead as walk_PagesRead
pub use Rattle.ctr_walk.proofs.Records as walk_Records
pub use Rattle.ctr_walk.proofs.Searches as walk_Searches
