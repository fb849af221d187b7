mod Entries
pub mod Sessions
pub mod Outside
pub mod Determined
mod Snapshots
mod Rollbacks
mod Sound
mod Examples
