pub mod Enduring
pub mod Beside
pub mod Noted
pub mod Stayed
pub mod Turned
pub mod Freely
pub mod Outside
pub mod Rooms
pub use Rattle.ctr_exec.proofs.Fewer as exec_Fewer
pub use Rattle.ctr_exec.proofs.Going as exec_Going
pub use Rattle.ctr_exec.proofs.Places as exec_Places
pub use Rattle.ctr_exec.proofs.Points as exec_Points
pub use Rattle.ctr_exec.proofs.Seats as exec_Seats
pub use Rattle.ctr_exec.proofs.Shown as exec_Shown
pub use Rattle.ctr_exec.proofs.ctr_session_world.Alike as session_world_Alike
pub use Rattle.ctr_exec.proofs.ctr_session_world.Disks as session_world_Disks
pub use Rattle.ctr_exec.proofs.ctr_session_world.Resting as session_world_Resting
pub use Rattle.ctr_walk.proofs.Joins as walk_Joins
