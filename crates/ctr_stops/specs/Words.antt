-- The words of other crates in which this one says its laws.
pub use Rattle.ctr_versions.specs.Laws.{IsNoSessions}
pub use Rattle.ctr_passed.specs.area_Chains.{pages_bound}
pub use Rattle.ctr_store.specs.redo_States.{State, counting, grown}
pub use Rattle.ctr_passed.specs.record_effects_States.{pages_in, area_in}
pub use Rattle.ctr_passed.specs.actions_Sites.{site_of}
pub use Rattle.ctr_passed.specs.actions_Actions.{Action}
pub use Rattle.ctr_passed.specs.actions_Records.{Does}
pub use Rattle.ctr_passed.specs.actions_Facts.{Fact}
pub use Rattle.ctr_passed.specs.Laid.{LiesAs, LaidPasses}
pub use Rattle.ctr_kept.specs.Walk.{Mind, with_facts, mind_at}
pub use Rattle.ctr_kept.specs.Turns.{Start, KeepsRun, InTransaction, AnswersEach, state_now}
pub use Rattle.ctr_types.specs.declared.tape.Entry.{Entry}
pub use Rattle.ctr_disk.specs.Device.{LeavesOnly}
pub use Rattle.ctr_disk.specs.Image.{Image}
pub use Rattle.ctr_rec.specs.declared.record.Record.{Record}
pub use Rattle.ctr_model.specs.declared.database.Change.{Change}
pub use Rattle.ctr_model.specs.Database.{Database, after_all}
pub use Rattle.ctr_model.specs.State.{at_rest}
pub use Rattle.ctr_model.specs.Texts.{answers}
pub use Rattle.ctr_passed.specs.record_effects_Standing.{StandsForDatabase}
pub use Rattle.ctr_store.specs.Opening.{LeavesFirst}
pub use Rattle.ctr_store.specs.StoreOpening.{OpensStore}
pub use Rattle.ctr_store.specs.Store.{View, LeavesFront, LeavesGrowing, GrowsByExtent, Logs}
pub use Rattle.ctr_kept.specs.ctr_names.Held.{names_of_items}
pub use Rattle.ctr_kept.specs.ctr_paged.Paged.{at_open}
pub use Rattle.ctr_kept.specs.ctr_paged.Shown.{IsShown}
pub use Rattle.ctr_types.specs.declared.statement.Line.{Line}
