pub mod Areas
pub mod Reading
pub mod Chains
pub mod Images
pub mod Sound
pub mod Checked
pub mod Changes
pub use Rattle.ctr_page.specs.ctr_value as ctr_value
pub use Rattle.ctr_page.specs as ctr_page
pub use Rattle.ctr_meta.specs.ctr_bytes as ctr_bytes
pub use Rattle.ctr_versions.specs.Chains as versions_Chains
pub use Rattle.ctr_versions.specs.Changes as versions_Changes
pub use Rattle.ctr_versions.specs.Listing as versions_Listing
pub use Rattle.ctr_versions.specs.Versions as versions_Versions
pub use Rattle.ctr_meta.specs.Effects as meta_Effects
pub use Rattle.ctr_meta.specs.Items as meta_Items
pub use Rattle.ctr_meta.specs.Tables as meta_Tables
pub use Rattle.ctr_meta.specs.declared.items.Wanted as meta_Wanted
pub use Rattle.ctr_page.specs.ctr_rec.declared.record.SlogItem as rec_SlogItem
pub use Rattle.ctr_versions.specs.ctr_model.Database as model_Database
pub use Rattle.ctr_page.specs.types_Column as types_Column
pub use Rattle.ctr_versions.specs.types_Row as types_Row
pub use Rattle.ctr_meta.specs.Seen as meta_Seen
pub use Rattle.ctr_versions.specs.Engine as versions_Engine
pub use Rattle.ctr_versions.specs.Heads as versions_Heads
pub use Rattle.ctr_versions.specs.Keys as versions_Keys
pub use Rattle.ctr_versions.specs.Laws as versions_Laws
pub use Rattle.ctr_versions.specs.Undoing as versions_Undoing
pub use Rattle.ctr_versions.specs.Xids as versions_Xids
pub use Rattle.ctr_versions.specs.ctr_model.Maps as model_Maps
pub use Rattle.ctr_versions.specs.ctr_model.Reply as model_Reply
pub use Rattle.ctr_versions.specs.ctr_model.State as model_State
pub use Rattle.ctr_versions.specs.ctr_model.declared.database.Table as model_Table
pub use Rattle.ctr_versions.specs.ctr_model.declared.state.State as model_declared_state_State
pub use Rattle.ctr_versions.specs.ctr_model.declared.state.Transaction as model_Transaction
pub use Rattle.ctr_meta.specs.Needs as meta_Needs
pub use Rattle.ctr_page.specs.ctr_rec.Damage as rec_Damage
pub use Rattle.ctr_meta.specs.rec_Spelling as rec_Spelling
pub use Rattle.ctr_page.specs.ctr_rec.declared.decoding.BadRecord as rec_BadRecord
pub use Rattle.ctr_meta.specs.Kept as meta_Kept
