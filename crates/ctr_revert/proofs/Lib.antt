pub mod Lost
pub mod Logged
pub mod Passed
pub mod Headless
pub mod Reverted
pub mod Taken
pub use Rattle.ctr_versions.proofs.Keys as versions_Keys
