pub mod Locking
pub use Rattle.ctr_cleaning.specs.Sparing as cleaning_Sparing
pub use Rattle.ctr_titles.specs.Titles as titles_Titles
