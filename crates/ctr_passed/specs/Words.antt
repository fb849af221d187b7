-- The words of other crates in which this one says its laws.
pub use Rattle.ctr_types.specs.declared.value.Column.{Column}
pub use Rattle.ctr_types.specs.Names.{IsName}
pub use Rattle.ctr_actions.specs.value_Columns.{ColumnsFit}
pub use Rattle.ctr_actions.specs.rec_Record.{Record}
pub use Rattle.ctr_actions.specs.ctr_redo.Overlaid.{touches}
pub use Rattle.ctr_actions.specs.ctr_redo.States.{State, step, counting}
pub use Rattle.ctr_actions.specs.page_Header.{Header}
pub use Rattle.ctr_actions.specs.page_Place.{Place}
pub use Rattle.ctr_actions.specs.page_RowSlot.{RowSlot}
pub use Rattle.ctr_actions.specs.page_VersionEntry.{VersionEntry}
pub use Rattle.ctr_actions.specs.area_Areas.{Title, Older, Area}
pub use Rattle.ctr_actions.specs.record_laws_Owed.{RowMove, Reverting, Trimming, rows_header, versions_header, OwedByKeep, OwedByRow, OwedByRevert, OwedByTrim, OwedByCut, OwedByLink, OwedByOlderLink, OwedByUnlink, OwedByOlderUnlink, OwedByUncreate, OwedByUndrop, OwedByDrop, OwedByDying}
pub use Rattle.ctr_actions.specs.ctr_record_effects.States.{area_in, IsWholePage, pages_in}
pub use Rattle.ctr_actions.specs.ctr_record_effects.Standing.{IsDatabaseState}
pub use Rattle.ctr_actions.specs.ctr_record_effects.Changing.{format_record, link_record, link_older_record, unlink_record, unlink_older_record, create_record, uncreate_record, drop_record, undrop_record, laid_in_entry, Lays, alloc_record, free_record}
pub use Rattle.ctr_actions.specs.Actions.{Links, LinksOlder, Keeps, Writes, Creates, Drops, Uncreates, Undrops, Reverts, Trims, Cuts, FreesOlder, MakesDead, Unlinks, UnlinksOlder, FreesEntry, Action, Begins, Allocates, Formats, Commits, Frees, Aborts, Reclaims, Forgets, Checkpoints}
pub use Rattle.ctr_actions.specs.area_Chains.{pages_bound, slot_places, older_places}
pub use Rattle.ctr_actions.specs.area_Checked.{ArePassed}
pub use Rattle.ctr_actions.specs.Records.{Does}
pub use Rattle.ctr_actions.specs.rec_Record.TheVariants.{Begin, Commit, Abort, Forget, Checkpoint}
pub use Rattle.ctr_actions.specs.page_table_TheConstants.{ENTRY_SIZE}
pub use Rattle.ctr_actions.specs.record_laws_Loose.{IsLoose}
pub use Rattle.ctr_actions.specs.page_Places.{room_for}
pub use Rattle.ctr_actions.specs.page_Reading.{slot_at, older_at}
pub use Rattle.ctr_actions.specs.area_Sound.{IsAmong}
pub use Rattle.ctr_actions.specs.area_Changes.{IsPlaceOf}
pub use Rattle.ctr_actions.specs.area_Reading.{columns_on, width_on, slot_said, older_said}
pub use Rattle.ctr_actions.specs.Sites.{site_of}
pub use Rattle.ctr_actions.specs.Facts.{HasPage, HasBlank, HoldsFact, IsBeside}
