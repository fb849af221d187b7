pub mod Looked
pub mod Chain
pub mod Steps
pub mod Most
pub mod Numbered
pub mod Slots
pub mod RowsSaid
pub mod ReadAgain
pub use Rattle.ctr_pvs.proofs as ctr_pvs
pub use Rattle.ctr_pvs.proofs.passed_Pagewise as passed_Pagewise
