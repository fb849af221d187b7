pub mod TurnLaws
pub mod Heads
