-- The Write of a CREATE TABLE or a DROP TABLE in a World.
use Rattle.std.specs.Prelude.{◌≡◌, ◌≢◌, ℕ, ◌<◌, true, List, ◌++◌}
use Rattle.ctr_disk.specs.declared.disk.Disk.{Ghosts}
use Rattle.ctr_model.specs.State.{has_name}
use Rattle.ctr_versions.specs.Engine.{IsCalm}
use Rattle.ctr_area.specs.Areas.{Title}
use Rattle.ctr_area.specs.Sound.{IsAmong}
use Rattle.ctr_rollback.specs.actions_Facts.{Fact, HasTable}
use Rattle.ctr_views.specs.paged_Paged.{xids_of}
use Rattle.ctr_views.specs.names_Search.{IsEntryFound, finds}
use Rattle.ctr_rollback.specs.record_effects_States.{area_in}
use Rattle.ctr_rollback.specs.store_Store.{View}
use Rattle.ctr_rollback.specs.kept_Tables.{AreTables}
use Rattle.ctr_rollback.specs.kept_Walk.{Mind}
use Rattle.ctr_rollback.specs.kept_Turns.{Start, InTransaction}
use Rattle.ctr_rollback.specs.stops_World.{KeepsWorld}
use Rattle.ctr_told.specs.Turning.{facts_idle}

-- A World in which a session that has a number holds a name, whose table it makes or drops. It
-- hasn't asked for its commit, and isn't within its rollback. Beside that it counts on tables.
pub record IsAtTable {D : Type 0} (g : Ghosts D) (c : Start) (opened : D) (a : View D) (w : Mind)
    : Type 0 where
  pub s : ℕ
  pub seat : InTransaction c w s
  pub name : List ℕ
  pub keeps : KeepsWorld g c opened a w
  pub some : 0 < seat.session.me
  pub calm : IsCalm seat.session seat.t
  pub holds : has_name name seat.t.holds ≡ true
  pub more : List Fact
  pub tables : AreTables more
  pub carries : w.facts s ≡ facts_idle ++ more

-- the session finds the table of the name at an entry
abbrev pub FindsIt : {D : Type 0} {g : Ghosts D} {c : Start} {opened : D} {a : View D} {w : Mind}
    → IsAtTable g c opened a w → ℕ → Type 0
FindsIt {D} {g} {c} {opened} {a} {w} is e = IsEntryFound
    (finds (xids_of a.now.tables w.run.commits) is.seat.session) is.name (area_in a.now) e

-- Facts are of a session's tables, but not of the one of an entry.
pub record AreOthers (e : ℕ) (more rest : List Fact) : Type 0 where
  pub tables : AreTables rest
  pub among : (f : Fact) → IsAmong f rest → IsAmong f more
  pub others : (d : ℕ) (title : Title) → IsAmong (HasTable d title) rest → d ≢ e
