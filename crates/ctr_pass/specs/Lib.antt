pub mod Passing
pub mod Beside
pub mod Going
pub mod Keeping
pub mod Sparing
pub use Rattle.ctr_cleaner.specs.Finding as cleaner_Finding
pub use Rattle.ctr_cleaner.specs.Turning as cleaner_Turning
pub use Rattle.ctr_cleaner.specs.declared.done.CleanTurn as cleaner_CleanTurn
pub use Rattle.ctr_cleaner.specs.clean_Lists as clean_Lists
pub use Rattle.ctr_cleaner.specs.cursor_Pass as cursor_Pass
pub use Rattle.ctr_cleaner.specs.cursor_Standing as cursor_Standing
pub use Rattle.ctr_cleaner.specs.cursor_Position as cursor_Position
pub use Rattle.ctr_exec.specs.Acting as exec_Acting
pub use Rattle.ctr_exec.specs.Order as exec_Order
pub use Rattle.ctr_exec.specs.Runners as exec_Runners
pub use Rattle.ctr_exec.specs.Sessions as exec_Sessions
pub use Rattle.ctr_exec.specs.declared.runners.Runner as exec_Runner
pub use Rattle.ctr_exec.specs.declared.sessions.Sessions as exec_sessions_Sessions
pub use Rattle.ctr_exec.specs.ctr_session_world.Ready as session_world_Ready
pub use Rattle.ctr_exec.specs.ctr_session_world.World as session_world_World
pub use Rattle.ctr_exec.specs.ctr_writing.Tables as writing_Tables
pub use Rattle.ctr_exec.specs.txn_Held as txn_Held
pub use Rattle.ctr_exec.specs.txn_Rooms as txn_Rooms
pub use Rattle.ctr_exec.specs.ctr_control.txn_Steps as txn_Steps
pub use Rattle.ctr_cleaner.specs.cleaning_Sparing as cleaning_Sparing
pub use Rattle.ctr_cleaner.specs.actions_Cleaning as actions_Cleaning
pub use Rattle.ctr_cleaner.specs.page_turns_Acts as page_turns_Acts
pub use Rattle.ctr_cleaner.specs.page_turns_Turns as page_turns_Turns
pub use Rattle.ctr_cleaner.specs.declared.done.MayEmpty as cleaner_MayEmpty
