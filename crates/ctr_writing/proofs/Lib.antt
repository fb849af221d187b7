pub mod Counting
pub mod Titles
pub mod Roomy
pub mod Seated
pub mod Wanting
pub mod Rowing
pub mod Tabling
pub mod Turned
pub use Rattle.ctr_looks.proofs as ctr_looks
pub use Rattle.ctr_looks.proofs.ctr_session_world as ctr_session_world
