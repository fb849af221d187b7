pub mod Values
pub mod Causes
pub mod Asking
pub use Rattle.ctr_walk.specs.Damage as walk_Damage
pub use Rattle.ctr_wishes.specs as ctr_wishes
