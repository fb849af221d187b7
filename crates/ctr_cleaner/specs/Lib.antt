pub mod Finding
pub mod Turning
pub mod Parts
pub use Rattle.ctr_emptying.specs.clean_Lists as clean_Lists
pub use Rattle.ctr_actions.specs.Cleaning as actions_Cleaning
pub use Rattle.ctr_emptying.specs.cursor_Standing as cursor_Standing
pub use Rattle.ctr_emptying.specs.cursor_Position as cursor_Position
pub use Rattle.ctr_emptying.specs.cursor_Pass as cursor_Pass
pub use Rattle.ctr_locking.specs.cleaning_Sparing as cleaning_Sparing
pub use Rattle.ctr_emptying.specs.page_turns_Acts as page_turns_Acts
pub use Rattle.ctr_emptying.specs.page_turns_Turns as page_turns_Turns
