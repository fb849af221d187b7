pub mod Blocks
pub mod Replay
pub mod ReplayLaws
pub mod Counting
pub mod Memory
