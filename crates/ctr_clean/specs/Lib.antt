pub mod Choosing
pub mod Heads
pub mod Steps
pub mod Lists
pub mod Tables
pub mod Older
pub mod Cutting
pub mod Passing
pub use Rattle.ctr_dead.specs.page_turns_Turns as page_turns_Turns
pub use Rattle.ctr_dead.specs.Unlinking as dead_Unlinking
pub use Rattle.ctr_dead.specs.page_turns_Acts as page_turns_Acts
pub use Rattle.ctr_dead.specs.Titles as dead_Titles
pub use Rattle.ctr_titles.specs.declared.reading.TitleRead as titles_TitleRead
pub use Rattle.ctr_dead.specs.page_turns_Rooms as page_turns_Rooms
