pub mod Paged
pub mod Shown
pub mod Moving
pub use Rattle.ctr_names.specs as ctr_names
pub use Rattle.ctr_actions.specs.Actions as actions_Actions
pub use Rattle.ctr_actions.specs.Facts as actions_Facts
pub use Rattle.ctr_actions.specs.Sites as actions_Sites
pub use Rattle.ctr_sessions.specs.Sessions as sessions_Sessions
pub use Rattle.ctr_actions.specs.area_Areas as area_Areas
pub use Rattle.ctr_actions.specs.area_Chains as area_Chains
pub use Rattle.ctr_actions.specs.area_Images as area_Images
pub use Rattle.ctr_actions.specs.area_Sound as area_Sound
pub use Rattle.ctr_actions.specs.record_laws_Bounds as record_laws_Bounds
pub use Rattle.ctr_actions.specs.record_laws_Owed as record_laws_Owed
pub use Rattle.ctr_actions.specs.page_Header as page_Header
pub use Rattle.ctr_actions.specs.page_Place as page_Place
pub use Rattle.ctr_sessions.specs.legal_Kept as legal_Kept
