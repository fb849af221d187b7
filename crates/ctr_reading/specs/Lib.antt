pub mod Reading
pub mod Gathering
pub use Rattle.ctr_views.specs as ctr_views
pub use Rattle.ctr_undamaged.specs.heap_Ways as heap_Ways
pub use Rattle.ctr_views.specs.chain_Visible as chain_Visible
pub use Rattle.ctr_views.specs.chain_ReadRefusal as chain_ReadRefusal
pub use Rattle.ctr_views.specs.paged_Shown as paged_Shown
pub use Rattle.ctr_views.specs.catalog_Columns as catalog_Columns
pub use Rattle.ctr_views.specs.catalog_SchemaRefusal as catalog_SchemaRefusal
pub use Rattle.ctr_views.specs.actions_Sites as actions_Sites
pub use Rattle.ctr_walk.specs.Damage as walk_Damage
pub use Rattle.ctr_views.specs.actions_Actions as actions_Actions
pub use Rattle.ctr_views.specs.catalog_Finding as catalog_Finding
pub use Rattle.ctr_views.specs.pvs_Table as pvs_Table
pub use Rattle.ctr_undamaged.specs.pvs_Slots as pvs_Slots
pub use Rattle.ctr_undamaged.specs.chain_Seeking as chain_Seeking
pub use Rattle.ctr_undamaged.specs.Undamaged as undamaged_Undamaged
pub use Rattle.ctr_undamaged.specs.heap_Finding as heap_Finding
pub use Rattle.ctr_undamaged.specs.heap_SlotSought as heap_SlotSought
