pub mod Viewing
pub mod Scanning
pub use Rattle.ctr_paged.specs.Shown as paged_Shown
pub use Rattle.ctr_chain.specs.Rows as chain_Rows
pub use Rattle.ctr_chain.specs.Visible as chain_Visible
pub use Rattle.ctr_chain.specs.declared.view.ReadRefusal as chain_ReadRefusal
pub use Rattle.ctr_chain.specs.ctr_pvs.Reading as pvs_Reading
pub use Rattle.ctr_chain.specs.ctr_pvs.Table as pvs_Table
pub use Rattle.ctr_paged.specs.actions_Sites as actions_Sites
pub use Rattle.ctr_paged.specs.ctr_names.Search as names_Search
pub use Rattle.ctr_catalog.specs.Columns as catalog_Columns
pub use Rattle.ctr_catalog.specs.declared.columns.SchemaRefusal as catalog_SchemaRefusal
pub use Rattle.ctr_catalog.specs.Finding as catalog_Finding
pub use Rattle.ctr_paged.specs.Paged as paged_Paged
pub use Rattle.ctr_paged.specs.actions_Actions as actions_Actions
