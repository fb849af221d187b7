pub mod Behind
pub mod Reading
pub mod Told
pub mod Slots
pub mod Numbers
pub mod Greatest
pub mod Last
pub mod Tables
pub mod Rows
pub mod Passing
pub mod Only
pub mod Firsts
pub mod Presence
pub mod Going
pub mod Undropped
pub use Rattle.ctr_wishes.proofs.views_Looking as views_Looking
pub use Rattle.ctr_wishes.proofs as ctr_wishes
