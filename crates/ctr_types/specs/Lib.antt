pub mod Damage
pub mod Names
pub mod Faults
