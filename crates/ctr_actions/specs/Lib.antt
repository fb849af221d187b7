pub mod Sites
pub mod Actions
pub mod Records
pub mod Facts
pub mod Cleaning
pub mod Words
pub use Rattle.ctr_record_effects.specs as ctr_record_effects
pub use Rattle.ctr_record_effects.specs.ctr_redo as ctr_redo
pub use Rattle.ctr_record_laws.specs.Bounds as record_laws_Bounds
pub use Rattle.ctr_record_laws.specs.Loose as record_laws_Loose
pub use Rattle.ctr_record_laws.specs.Owed as record_laws_Owed
pub use Rattle.ctr_record_laws.specs.area_Areas as area_Areas
pub use Rattle.ctr_record_laws.specs.area_Chains as area_Chains
pub use Rattle.ctr_record_laws.specs.area_Changes as area_Changes
pub use Rattle.ctr_record_effects.specs.area_Checked as area_Checked
pub use Rattle.ctr_record_laws.specs.area_Images as area_Images
pub use Rattle.ctr_record_laws.specs.area_Reading as area_Reading
pub use Rattle.ctr_record_laws.specs.area_Sound as area_Sound
pub use Rattle.ctr_record_laws.specs.meta_Effects as meta_Effects
pub use Rattle.ctr_record_laws.specs.meta_Tables as meta_Tables
pub use Rattle.ctr_record_laws.specs.value_Columns as value_Columns
pub use Rattle.ctr_record_laws.specs.value_Payload as value_Payload
pub use Rattle.ctr_record_laws.specs.value_Values as value_Values
pub use Rattle.ctr_record_laws.specs.page_Columns as page_Columns
pub use Rattle.ctr_record_laws.specs.page_Damage as page_Damage
pub use Rattle.ctr_record_effects.specs.page_Making as page_Making
pub use Rattle.ctr_record_laws.specs.page_Places as page_Places
pub use Rattle.ctr_record_effects.specs.page_Readable as page_Readable
pub use Rattle.ctr_record_laws.specs.page_Reading as page_Reading
pub use Rattle.ctr_record_laws.specs.page_Chain as page_Chain
pub use Rattle.ctr_record_laws.specs.page_Header as page_Header
pub use Rattle.ctr_record_laws.specs.page_Place as page_Place
pub use Rattle.ctr_record_effects.specs.page_RowSlot as page_RowSlot
pub use Rattle.ctr_record_laws.specs.page_Version as page_Version
pub use Rattle.ctr_record_effects.specs.page_VersionEntry as page_VersionEntry
pub use Rattle.ctr_record_effects.specs.page_table_TheConstants as page_table_TheConstants
pub use Rattle.ctr_record_laws.specs.rec_Damage as rec_Damage
pub use Rattle.ctr_record_laws.specs.rec_BadRecord as rec_BadRecord
pub use Rattle.ctr_record_effects.specs.rec_Record as rec_Record
pub use Rattle.ctr_record_laws.specs.rec_SlogItem.TheVariants as rec_SlogItem_TheVariants
