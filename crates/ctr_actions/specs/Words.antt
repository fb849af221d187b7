-- The words of other crates in which this one says its laws.
pub use Rattle.ctr_record_laws.specs.rec_SlogItem.TheVariants.{FreeOf}
pub use Rattle.ctr_record_laws.specs.area_Images.{is_committed_in, is_live}
pub use Rattle.ctr_record_laws.specs.area_Sound.{IsAmong, IsBare, IsUsedSlot}
pub use Rattle.ctr_record_laws.specs.Bounds.{IsInBounds}
pub use Rattle.ctr_record_laws.specs.Owed.{PassCommitted, older_copy, rows_header, versions_header, first_page, RowMove, OwedByRow, IsLastItem, HasNoItems}
pub use Rattle.ctr_record_laws.specs.page_Header.{Header}
pub use Rattle.ctr_record_laws.specs.page_Place.{Place}
pub use Rattle.ctr_record_laws.specs.area_Areas.{RowVersion}
pub use Rattle.ctr_record_effects.specs.rec_Overlay.{Overlay}
pub use Rattle.ctr_record_laws.specs.meta_Needs.{needs}
pub use Rattle.ctr_record_laws.specs.meta_Effects.{effect}
pub use Rattle.ctr_record_laws.specs.area_Chains.{pages_bound}
pub use Rattle.ctr_record_laws.specs.Loose.{IsSpareFor}
pub use Rattle.ctr_record_laws.specs.Shows.{ShowTheSame}
pub use Rattle.ctr_record_effects.specs.ctr_redo.States.{State, step}
pub use Rattle.ctr_record_effects.specs.States.{area_in}
pub use Rattle.ctr_record_laws.specs.rec_SlogItem.{SlogItem}
pub use Rattle.ctr_record_laws.specs.meta_Items.{is_item_by}
