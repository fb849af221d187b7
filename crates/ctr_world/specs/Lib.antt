pub mod Held
pub mod Opened
pub mod Begun
pub mod World
pub mod Cleaning
pub mod Turns
pub mod Ended
pub mod Counted
pub use Rattle.ctr_totals.specs.Totals as totals_Totals
pub use Rattle.ctr_totals.specs.declared.counting.Totals as totals_declared_Totals
pub use Rattle.ctr_pass.specs.exec_Order as exec_Order
pub use Rattle.ctr_pass.specs.exec_Runner as exec_Runner
pub use Rattle.ctr_pass.specs.exec_Runners as exec_Runners
pub use Rattle.ctr_pass.specs.exec_Sessions as exec_Sessions
pub use Rattle.ctr_pass.specs.exec_sessions_Sessions as exec_sessions_Sessions
pub use Rattle.ctr_pass.specs.txn_Held as txn_Held
pub use Rattle.ctr_pass.specs.writing_Tables as writing_Tables
pub use Rattle.ctr_undo.specs.stops_Fronts as stops_Fronts
pub use Rattle.ctr_undo.specs.stops_Stops as stops_Stops
pub use Rattle.ctr_undo.specs.stops_World as stops_World
pub use Rattle.ctr_undo.specs.kept_Turns as kept_Turns
