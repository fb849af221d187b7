pub mod Told
pub mod Putting
pub mod Gathers
pub mod Scans
pub mod Places
pub mod Walked
pub mod Viewed
pub use Rattle.ctr_undamaged.proofs.There as undamaged_There
pub use Rattle.ctr_undamaged.proofs.heap_Made as heap_Made
pub use Rattle.ctr_walk.proofs.Damages as walk_Damages
pub use Rattle.ctr_walk.proofs.Joins as walk_Joins
pub use Rattle.ctr_views.proofs.Scanning as views_Scanning
pub use Rattle.ctr_views.proofs.pvs_Told as pvs_Told
pub use Rattle.ctr_views.proofs.passed_Pagewise as passed_Pagewise
pub use Rattle.ctr_undamaged.proofs.Inside as undamaged_Inside
pub use Rattle.ctr_views.proofs.Looking as views_Looking
pub use Rattle.ctr_views.proofs.Reading as views_Reading
pub use Rattle.ctr_views.proofs.catalog_Searched as catalog_Searched
