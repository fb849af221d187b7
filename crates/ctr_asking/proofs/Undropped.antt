-- A table that a session has found, and whose act isn't refused, is live, and nobody has dropped it.
use Rattle.std.proofs.Common.{◌≡◌, ℕ, ◌+◌, ◌==◌, true, false, cond, List, Some, None, sym, ◌∙◌, ap}
use Rattle.std.specs.Prelude.{◌&&◌, drop}
use Rattle.std.proofs.lemmas.Bool.{or_parts}
use Rattle.ctr_types.specs.declared.statement.Statement.{Statement}
use Rattle.ctr_types.specs.declared.tape.Act.{Act}
use Rattle.ctr_model.specs.State.{has_name, transaction_of}
use Rattle.ctr_model.specs.declared.state.Transaction.{Transaction}
use Rattle.ctr_model.specs.Refusals.{busy_by, changes_schema, first_session, is_busy, others, refusal_of, table_of}
use Rattle.ctr_versions.specs.Chains.{changed_since}
use Rattle.ctr_versions.specs.Keys.{schema_writes}
use Rattle.ctr_area.specs.Images.{is_live}
use Rattle.ctr_record_laws.specs.Owed.{IsNameFreeFor}
use Rattle.ctr_legal.specs.Kept.{IsSteady}
use Rattle.ctr_legal.proofs.Cover.{other_passes}
use Rattle.ctr_legal.proofs.Keep.{Grants, grants, steady_name}
use Rattle.ctr_sessions.proofs.Own.{last_none}
use Rattle.ctr_names.specs.Search.{IsEntryFound}
use Rattle.ctr_names.proofs.Entries.{name_of}
use Rattle.ctr_names.proofs.Held.{name_alone}
use Rattle.ctr_names.proofs.Search.{found_undropped}
use Rattle.ctr_wishes.specs.actions_Sites.{Site}
use Rattle.ctr_txn.specs.paged_Paged.{xids_of}
use Rattle.ctr_txn.specs.paged_Shown.{Scene}
use Rattle.ctr_wishes.specs.ctr_views.Viewing.{Viewer}
use Rattle.ctr_wishes.proofs.views_Looking.{as_found, look, looking, names_shown}
use Rattle.ctr_asking.specs.declared.asker.Asker.{Asker}
use Rattle.ctr_asking.specs.Asking.{Asking, sees_for}
use Rattle.ctr_asking.proofs.Passing.{firm, scene, viewer}

module _ (asker : Asker) (site : Site) (k : Asking asker site) (act : Act) (statement : Statement) (name : List ℕ) (is : table_of statement ≡ Some name) (free : refusal_of k.state asker.s k.t act statement ≡ None) where
  pub granted : Grants k.state asker.s k.t act statement name
  granted = grants k.state asker.s k.t act statement name is free

  pub unbusy : busy_by k.state asker.s statement name ≡ None
  unbusy = ap (λ b. cond b (Some 0) (first_session (is_busy (changes_schema statement) name) (others asker.s k.state))) granted.unstuck ∙ granted.idle

  abbrev sc : Scene
  sc = scene asker site k

  abbrev v : Viewer sc
  v = viewer asker site k

  unheld : (r : ℕ) (u : Transaction) → (r == asker.s) ≡ false → transaction_of k.state r ≡ Some u → has_name name u.holds ≡ false
  unheld r u apart at =
      (or_parts (has_name name u.holds) (changes_schema statement && has_name name u.uses)
      (other_passes k.state asker.s r u apart at (is_busy (changes_schema statement) name) granted.idle)).0

  alone : IsNameFreeFor k.txn.session.me site.tables.items site.area.title name
  alone = name_alone site.tables.items site.area.title sc.run.sessions sc.state asker.s k.txn.session name k.shown.holds v.at granted.unstuck unheld

  steady : IsSteady k.state.asked k.t.snapshot name
  steady = steady_name k.state asker.s k.kept k.t k.is_t k.calm.0 (changes_schema statement) name granted.idle granted.unchanged

  quiet : changed_since k.t.snapshot (schema_writes name k.state.asked) ≡ None
  quiet = last_none (k.t.snapshot + 1) (drop k.t.snapshot (schema_writes name k.state.asked)) steady

  pub undropped : (e : ℕ) → IsEntryFound (sees_for site k.txn) name site.area e
      → ((site.area.title e).name ≡ name) × (is_live (site.area.title e) ≡ true) × ((site.area.title e).dropper ≡ 0)
  undropped e found =
      let its = firm asker site k in
      let so = as_found k.low site sc k.shown v name e found in
      let named = name_of site.area.title name e found.1 in
      let none = found_undropped site.counted k.low site.tables site.area (xids_of site.tables sc.run.commits) sc.state (look k.low site sc k.shown v its name)
      k.shown.paged.sound k.shown.paged.bounds (names_shown k.low site sc k.shown) (looking k.low site sc k.shown v its name) alone quiet e so.0 so.1 so.2 in
      (named.1, named.0, none)
