pub mod States
pub mod Changing
pub mod Standing
pub use Rattle.ctr_redo.specs as ctr_redo
pub use Rattle.ctr_redo.specs.rec_Overlay as rec_Overlay
pub use Rattle.ctr_redo.specs.rec_Record as rec_Record
pub use Rattle.ctr_area.specs.Checked as area_Checked
pub use Rattle.ctr_area.specs.ctr_page.Making as page_Making
pub use Rattle.ctr_area.specs.ctr_page.Readable as page_Readable
pub use Rattle.ctr_area.specs.ctr_page.declared.rows.RowSlot as page_RowSlot
pub use Rattle.ctr_area.specs.ctr_page.declared.rows.VersionEntry as page_VersionEntry
pub use Rattle.ctr_area.specs.ctr_page.declared.table.TheConstants as page_table_TheConstants
pub use Rattle.ctr_area.specs.Areas as area_Areas
pub use Rattle.ctr_area.specs.Chains as area_Chains
pub use Rattle.ctr_area.specs.Reading as area_Reading
pub use Rattle.ctr_area.specs.Sound as area_Sound
pub use Rattle.ctr_area.specs.ctr_value.Columns as value_Columns
pub use Rattle.ctr_area.specs.ctr_value.Payload as value_Payload
pub use Rattle.ctr_area.specs.ctr_page.Columns as page_Columns
pub use Rattle.ctr_area.specs.ctr_page.Damage as page_Damage
pub use Rattle.ctr_area.specs.ctr_page.Reading as page_Reading
pub use Rattle.ctr_area.specs.ctr_page.Searching as page_Searching
pub use Rattle.ctr_area.specs.ctr_page.Walking as page_Walking
pub use Rattle.ctr_area.specs.ctr_page.declared.checks.Chain as page_Chain
pub use Rattle.ctr_area.specs.ctr_page.declared.entry.CatalogEntry as page_CatalogEntry
pub use Rattle.ctr_area.specs.ctr_page.declared.header.Header as page_Header
pub use Rattle.ctr_area.specs.ctr_page.declared.rows.Place as page_Place
pub use Rattle.ctr_area.specs.ctr_page.declared.walk.BadChain as page_BadChain
