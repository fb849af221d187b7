pub mod Undamaged
pub use Rattle.ctr_heap.specs.Finding as heap_Finding
pub use Rattle.ctr_heap.specs.declared.slots.SlotSought as heap_SlotSought
pub use Rattle.ctr_chain.specs.Seeking as chain_Seeking
pub use Rattle.ctr_heap.specs.Ways as heap_Ways
pub use Rattle.ctr_revert.specs.Reverting as revert_Reverting
pub use Rattle.ctr_heap.specs.Writing as heap_Writing
pub use Rattle.ctr_catalog.specs.alloc_Free as alloc_Free
pub use Rattle.ctr_catalog.specs.alloc_NextFree as alloc_NextFree
pub use Rattle.ctr_heap.specs.record_effects_Changing as record_effects_Changing
pub use Rattle.ctr_catalog.specs.Free as catalog_Free
pub use Rattle.ctr_catalog.specs.Writing as catalog_Writing
pub use Rattle.ctr_catalog.specs.declared.writing.CatalogRefusal as catalog_CatalogRefusal
pub use Rattle.ctr_heap.specs.declared.ways.Way as heap_Way
pub use Rattle.ctr_chain.specs.ctr_pvs.Along as pvs_Along
pub use Rattle.ctr_chain.specs.ctr_pvs.Slots as pvs_Slots
pub use Rattle.ctr_chain.specs.ctr_pvs.Writing as pvs_Writing
pub use Rattle.ctr_chain.specs.ctr_pvs.declared.slot.LentSlot as pvs_LentSlot
