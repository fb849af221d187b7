pub mod Passing
pub mod Stays
pub mod Named
pub mod OnPages
pub mod Advances
pub mod Rooms
pub mod Leads
pub use Rattle.ctr_reading.proofs.Told as reading_Told
pub use Rattle.ctr_reading.proofs.Gathers as reading_Gathers
pub use Rattle.ctr_reading.proofs.Places as reading_Places
