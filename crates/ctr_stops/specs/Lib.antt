pub mod Fronts
pub mod Stops
pub mod Pages
pub mod World
pub mod Words
pub use Rattle.ctr_kept.specs.Carried as kept_Carried
pub use Rattle.ctr_kept.specs.Tables as kept_Tables
pub use Rattle.ctr_kept.specs.Turns as kept_Turns
pub use Rattle.ctr_kept.specs.Walk as kept_Walk
pub use Rattle.ctr_store.specs.Store as store_Store
pub use Rattle.ctr_passed.specs.actions_Facts as actions_Facts
pub use Rattle.ctr_kept.specs.Undo as kept_Undo
pub use Rattle.ctr_kept.specs.ctr_paged.Moving as paged_Moving
pub use Rattle.ctr_kept.specs.ctr_paged.Shown as paged_Shown
