pub mod Three
pub mod Firsts
pub use Rattle.ctr_walk.proofs.Entries as walk_Entries
pub use Rattle.ctr_trim.proofs.Reading as trim_Reading
pub use Rattle.ctr_trim.proofs.page_turns_Going as page_turns_Going
