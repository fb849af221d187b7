mod Quiet
pub mod Adding
pub mod Refused
mod Keeping
mod Passes
mod Cleaned
mod Onward
mod Reading
mod Roomy
mod Bare
mod Filling
mod Leading
mod Whole
mod Undoes
mod Ending
mod Counting
mod Undone
mod Titles
mod Beside
mod Started
mod Stuck
mod Going
mod Undoing
mod Nearer
pub use Rattle.ctr_pass.proofs.exec_Places as exec_Places
pub use Rattle.ctr_pass.proofs.exec_Points as exec_Points
