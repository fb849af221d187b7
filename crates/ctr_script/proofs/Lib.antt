pub mod LineLemmas
pub mod OneScript
pub mod AllScripts
