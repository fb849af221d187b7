pub mod Shape
pub mod Stand
pub mod Held
pub mod Search
pub use Rattle.ctr_record_laws.specs.meta_Items as meta_Items
pub use Rattle.ctr_record_laws.specs.meta_Wanted as meta_Wanted
pub use Rattle.ctr_record_laws.specs.area_Areas as area_Areas
pub use Rattle.ctr_record_laws.specs.area_Changes as area_Changes
pub use Rattle.ctr_record_laws.specs.area_Images as area_Images
pub use Rattle.ctr_record_laws.specs.area_Sound as area_Sound
pub use Rattle.ctr_record_laws.specs.value_Columns as value_Columns
pub use Rattle.ctr_record_laws.specs.versions_Chains as versions_Chains
pub use Rattle.ctr_record_laws.specs.versions_Keys as versions_Keys
pub use Rattle.ctr_record_laws.specs.versions_Xids as versions_Xids
pub use Rattle.ctr_record_laws.specs.page_Columns as page_Columns
pub use Rattle.ctr_record_laws.specs.page_Damage as page_Damage
pub use Rattle.ctr_record_laws.specs.page_Readable as page_Readable
pub use Rattle.ctr_record_laws.specs.page_Reading as page_Reading
pub use Rattle.ctr_record_laws.specs.page_Searching as page_Searching
pub use Rattle.ctr_record_laws.specs.page_CatalogEntry as page_CatalogEntry
pub use Rattle.ctr_record_laws.specs.page_table_TheConstants as page_table_TheConstants
pub use Rattle.ctr_record_laws.specs.page_BadChain as page_BadChain
pub use Rattle.ctr_record_laws.specs.meta_Kept as meta_Kept
pub use Rattle.ctr_record_laws.specs.meta_Seen as meta_Seen
pub use Rattle.ctr_record_laws.specs.meta_Tables as meta_Tables
pub use Rattle.ctr_record_laws.specs.Bounds as record_laws_Bounds
pub use Rattle.ctr_record_laws.specs.Owed as record_laws_Owed
pub use Rattle.ctr_record_laws.specs.area_Chains as area_Chains
