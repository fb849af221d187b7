-- The words of other crates in which this one says its laws.
pub use Rattle.ctr_rec.specs.declared.record.SlogItem.{SlogItem}
pub use Rattle.ctr_rec.specs.declared.record.SlogItem.TheVariants.{AllocOf, FreeOf, CreateOf, DropOf}
pub use Rattle.ctr_types.specs.declared.statement.Line.{Line}
pub use Rattle.ctr_model.specs.State.{transaction_of, view}
pub use Rattle.ctr_versions.specs.Laws.{IsNoSessions, with_own, IsGranted}
pub use Rattle.ctr_meta.specs.declared.items.Wanted.TheVariants.{Creation, Dropping}
pub use Rattle.ctr_paged.specs.area_Sound.{IsAmong}
pub use Rattle.ctr_paged.specs.record_laws_Bounds.{IsInBounds}
pub use Rattle.ctr_paged.specs.actions_Sites.{Site, IsSoundSite}
pub use Rattle.ctr_paged.specs.actions_Facts.{Fact, HasNoPageBut, HoldsFact}
pub use Rattle.ctr_paged.specs.Shown.{Scene, IsShown}
pub use Rattle.ctr_paged.specs.actions_Actions.{Action, Frees, Reclaims, MakesDead, Uncreates, Undrops, Aborts, Owes, site_after, Begins, Commits}
pub use Rattle.ctr_paged.specs.Moving.{IsItemOfName, MovesTo, with_its, without_its, HoldsAll}
pub use Rattle.ctr_model.specs.declared.database.Change.{Change}
pub use Rattle.ctr_model.specs.Reply.{changes_of, with_read}
pub use Rattle.ctr_paged.specs.sessions_Sessions.{IsDrawnFor}
pub use Rattle.ctr_types.specs.declared.tape.Act.{Act}
pub use Rattle.ctr_types.specs.declared.tape.Refusal.{Refusal}
pub use Rattle.ctr_types.specs.declared.tape.Reply.{Reply}
pub use Rattle.ctr_types.specs.declared.value.Rows.{Rows}
pub use Rattle.ctr_paged.specs.area_Chains.{pages_bound}
pub use Rattle.ctr_paged.specs.area_Images.{is_committed_in, image_rows, undo_size}
pub use Rattle.ctr_paged.specs.ctr_names.Held.{names_of_items}
