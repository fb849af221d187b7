pub mod Entries
pub mod Inside
pub mod Walks
pub mod There
pub mod Behind
pub mod Lost
pub use Rattle.ctr_heap.proofs.Made as heap_Made
pub use Rattle.ctr_heap.proofs.record_laws_Owning as record_laws_Owning
