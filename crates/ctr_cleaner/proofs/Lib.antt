pub mod Joined
pub mod Found
pub mod Bare
pub mod Moved
pub mod Due
pub use Rattle.ctr_emptying.proofs.cursor_Leads as cursor_Leads
pub use Rattle.ctr_emptying.proofs.clean_Resting as clean_Resting
