-- What a site is to an engine of versions in a run, and when it shows a state of the model.
use Rattle.std.specs.Prelude.{◌≡◌, ℕ, ◌<◌, ◌≤◌, true, List, [], Some}
use Rattle.std.specs.Ordering.{nat_cmp}
use Rattle.std.specs.FinMap.Entries.{find}
use Rattle.ctr_model.specs.declared.state.State.{State}
use Rattle.ctr_model.specs.declared.state.Transaction.{Transaction}
use Rattle.ctr_versions.specs.Xids.{Xids}
use Rattle.ctr_versions.specs.Versions.{IsOrdered}
use Rattle.ctr_versions.specs.Engine.{SessionHeld, EngineHeld, ShowsState}
use Rattle.ctr_actions.specs.meta_Tables.{Tables, is_in}
use Rattle.ctr_actions.specs.area_Areas.{Title}
use Rattle.ctr_actions.specs.area_Chains.{pages_bound}
use Rattle.ctr_actions.specs.area_Images.{is_committed_in, versions_in}
use Rattle.ctr_actions.specs.area_Sound.{xids_in}
use Rattle.ctr_actions.specs.record_laws_Bounds.{IsInBounds}
use Rattle.ctr_names.specs.Stand.{IsDropNewer}
use Rattle.ctr_actions.specs.Sites.{Site, IsSoundSite}

-- What a run has beside pages and tables: who asked for a commit in it, in order (a ghost: only the
-- numbers that are answered are told); the sessions in a transaction; and how many commits are
-- answered.
pub record Run : Type 0 where
  pub commits : List ℕ
  pub sessions : List (ℕ × SessionHeld)
  pub answered : ℕ

-- nobody is in a transaction yet
abbrev pub at_open : Run
at_open = record { commits = []; sessions = []; answered = 0 }

-- The transactions, by the tables. One that was rolled back and has no head left isn't in the
-- tables any more: it counts as committed before the run, and no version is its.
abbrev pub xids_of : Tables → List ℕ → Xids
xids_of tables commits = record {
  next = tables.next;
  live = xids_in tables.opens;
  aborted = xids_in tables.aborted;
  commits = commits;
}

-- The engine of versions that a site is, in a run.
abbrev pub engine_at : Site → Run → EngineHeld
engine_at site run = record {
  xids = xids_of site.tables run.commits;
  versions = versions_in (is_committed_in site.tables) site.area;
  sessions = run.sessions;
  answered = run.answered;
}

-- What the open transaction of each session has dropped was dropped later than each committed drop
-- of the name. (Of one that recovery undoes nothing is said: it won't commit.)
abbrev pub AreDropsNewer : Tables → List (ℕ × SessionHeld) → (ℕ → Title) → Type 0
AreDropsNewer tables sessions title = (s : ℕ) (b : SessionHeld) → find nat_cmp s sessions ≡ Some b
    → is_in b.me tables.opens ≡ true → IsDropNewer tables title b.me

-- A session that has drawn its number took its snapshot before.
abbrev pub AreSnapshotsEarlier : List (ℕ × SessionHeld) → Type 0
AreSnapshotsEarlier sessions = (s : ℕ) (b : SessionHeld) → find nat_cmp s sessions ≡ Some b
    → 0 < b.me → b.snapshot.next ≤ b.me

-- Each session is in a transaction of the model.
abbrev pub AreModelled : List (ℕ × SessionHeld) → List (ℕ × Transaction) → Type 0
AreModelled sessions transactions = (s : ℕ) (b : SessionHeld) → find nat_cmp s sessions ≡ Some b
    → (t : Transaction) × (find nat_cmp s transactions ≡ Some t)

-- The site shows the state in this run, from the low number on: it is sound, and the engine of
-- versions that it is shows the state. Drops and snapshots are in order, each session is the
-- model's, and the names of the base are in order.
pub record ShowsPaged (low : ℕ) (site : Site) (run : Run) (state : State) : Type 0 where
  pub bounds : IsInBounds site.area
  pub few : site.counted ≤ pages_bound
  pub sound : IsSoundSite site
  pub some : 0 < site.tables.next
  pub shows : ShowsState low (engine_at site run) state
  pub drops : AreDropsNewer site.tables run.sessions site.area.title
  pub earlier : AreSnapshotsEarlier run.sessions
  pub modelled : AreModelled run.sessions state.sessions
  pub ordered : IsOrdered state.base
