pub mod Emptying
pub mod Looking
pub use Rattle.ctr_clean.specs.Choosing as clean_Choosing
pub use Rattle.ctr_clean.specs.Lists as clean_Lists
pub use Rattle.ctr_cursor.specs.declared.position.Position as cursor_Position
pub use Rattle.ctr_cursor.specs.Pass as cursor_Pass
pub use Rattle.ctr_clean.specs.page_turns_Acts as page_turns_Acts
pub use Rattle.ctr_clean.specs.declared.choosing.SlotFacts as clean_SlotFacts
pub use Rattle.ctr_clean.specs.declared.older.OlderFacts as clean_OlderFacts
pub use Rattle.ctr_clean.specs.Cutting as clean_Cutting
pub use Rattle.ctr_clean.specs.Older as clean_Older
pub use Rattle.ctr_clean.specs.Steps as clean_Steps
pub use Rattle.ctr_clean.specs.Tables as clean_Tables
pub use Rattle.ctr_clean.specs.declared.steps.Step as clean_Step
pub use Rattle.ctr_cursor.specs.Standing as cursor_Standing
pub use Rattle.ctr_clean.specs.page_turns_Rooms as page_turns_Rooms
pub use Rattle.ctr_clean.specs.page_turns_Turns as page_turns_Turns
