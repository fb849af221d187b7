mod Counted
mod Opens
mod Zeros
pub use Rattle.ctr_run.proofs as ctr_run
