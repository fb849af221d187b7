pub mod Looking
pub mod OnPage
pub mod Headless
pub mod Resting
pub mod Listed
pub mod Along
pub mod Passed
pub use Rattle.ctr_dead.proofs.page_turns_Going as page_turns_Going
