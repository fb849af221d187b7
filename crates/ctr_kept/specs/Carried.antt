-- What sessions carry from turn to turn, and by which locks.
use Rattle.std.specs.Prelude.{◌≡◌, ◌⊎◌, ℕ, true, List, Some}
use Rattle.std.specs.Ordering.{nat_cmp}
use Rattle.std.specs.FinMap.Entries.{find}
use Rattle.ctr_model.specs.declared.state.Transaction.{Transaction}
use Rattle.ctr_model.specs.State.{has_name}
use Rattle.ctr_model.specs.Refusals.{has_lock}
use Rattle.ctr_versions.specs.Engine.{SessionHeld}
use Rattle.ctr_paged.specs.area_Areas.{Title}
use Rattle.ctr_paged.specs.area_Images.{is_live}
use Rattle.ctr_paged.specs.area_Sound.{IsAmong}
use Rattle.ctr_paged.specs.actions_Sites.{Site}
use Rattle.ctr_paged.specs.actions_Actions.{Action, Begins, Allocates, Formats, Links, LinksOlder, Keeps, Writes, Creates, Drops, Commits, Frees, Uncreates, Undrops, Aborts}
use Rattle.ctr_paged.specs.actions_Facts.{Fact, HasBlank, HasSlot, HasCopy, HasTable, HoldsFact, IsAway}
use Rattle.ctr_paged.specs.Shown.{Scene}

-- The lock or use by which a transaction may count on a fact. A table that is counted on is live,
-- and nobody has dropped it.
abbrev pub IsUnderLock : Transaction → Fact → Site → Type 0
IsUnderLock t (HasSlot e at slot) site = has_lock (site.area.title e).name slot.key t ≡ true
IsUnderLock t (HasCopy e at v q) site =
    has_lock (site.area.title e).name (site.area.slot at).key t ≡ true
IsUnderLock t (HasTable e title) site = (is_live title ≡ true)
    × ((has_name title.name t.uses ≡ true) ⊎ (has_name title.name t.holds ≡ true))
    × (title.dropper ≡ 0)
IsUnderLock t fact site = Unit {0}

-- The lock or hold by which a session's transaction may act. What undo and the cleaner do lies
-- under no lock: they leave what is locked.
abbrev pub Covers : Transaction → Action → Site → Type 0
Covers t Begins site = Unit {0}
Covers t (Allocates p) site = Unit {0}
Covers t (Formats p h) site = Unit {0}
Covers t (Links p e b) site = Unit {0}
Covers t (LinksOlder p e) site = Unit {0}
Covers t (Keeps e at older) site = Unit {0}
Covers t (Writes m) site = has_lock (site.area.title m.entry).name m.key t ≡ true
Covers t (Creates e name columns left) site = has_name name t.holds ≡ true
Covers t (Drops e) site = has_name (site.area.title e).name t.holds ≡ true
Covers t Commits site = Unit {0}
Covers t (Frees p) site = Unit {0}
Covers t (Uncreates e) site = has_name (site.area.title e).name t.holds ≡ true
Covers t (Undrops e) site = has_name (site.area.title e).name t.holds ≡ true
Covers t Aborts site = Unit {0}
Covers t a site = ⊥

-- the fact is of this entry of the catalog
abbrev pub IsOfEntry : Fact → ℕ → Type 0
IsOfEntry (HasBlank p h) e = h.entry ≡ e
IsOfEntry (HasSlot f at slot) e = f ≡ e
IsOfEntry (HasCopy f at v q) e = f ≡ e
IsOfEntry fact e = ⊥

-- Each session holds the facts that it carries, by a lock or use of its transaction; and what it
-- counts on of a table it carries with that table's title.
pub record AreCarried (site : Site) (scene : Scene) (facts : ℕ → List Fact) : Type 0 where
  pub held : (s : ℕ) (b : SessionHeld) (fact : Fact) → find nat_cmp s scene.run.sessions ≡ Some b
      → IsAmong fact (facts s) → HoldsFact b.me fact site
  pub under : (s : ℕ) (t : Transaction) (fact : Fact) → find nat_cmp s scene.state.sessions ≡ Some t
      → IsAmong fact (facts s) → IsUnderLock t fact site
  pub tables : (s : ℕ) (fact : Fact) (e : ℕ) → IsAmong fact (facts s) → IsOfEntry fact e
      → (title : Title) × IsAmong (HasTable e title) (facts s)

-- A fact of a table comes with the title of that table, which is counted on too.
abbrev pub HasItsTable : ℕ → Transaction → Fact → Site → Type 0
HasItsTable x t fact site = (e : ℕ) → IsOfEntry fact e
    → (title : Title) × HoldsFact x (HasTable e title) site × IsUnderLock t (HasTable e title) site

-- An action is away from what this transaction counts on.
abbrev pub IsAwayFrom : Action → ℕ → Transaction → List Fact → Site → Type 0
IsAwayFrom a x t facts site = (fact : Fact) → IsAmong fact facts → HoldsFact x fact site
    → IsUnderLock t fact site → HasItsTable x t fact site → IsAway a fact

-- an action is away from what each session carries
abbrev pub IsAwayFromAll : Action → Site → Scene → (ℕ → List Fact) → Type 0
IsAwayFromAll a site scene facts = (s : ℕ) (b : SessionHeld) (t : Transaction)
    → find nat_cmp s scene.run.sessions ≡ Some b → find nat_cmp s scene.state.sessions ≡ Some t
    → IsAwayFrom a b.me t (facts s) site
