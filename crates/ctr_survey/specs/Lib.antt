pub mod Surveying
pub mod Standing
pub use Rattle.ctr_reading.specs.Reading as reading_Reading
pub use Rattle.ctr_stops.specs.Fronts as stops_Fronts
pub use Rattle.ctr_reading.specs.chain_ReadRefusal as chain_ReadRefusal
