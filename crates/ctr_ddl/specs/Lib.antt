pub mod Tables
pub use Rattle.ctr_page_turns.specs.walk_Damage as walk_Damage
