-- Undo's list: the items of the start that are left, and behind them the transactions that were
-- open then.
use Rattle.std.specs.Prelude.{◌≡◌, ◌⊎◌, ℕ, ◌+◌, ◌≤◌, true, List, ◌++◌, length, Some}
use Rattle.std.specs.Ordering.{nat_cmp}
use Rattle.std.specs.FinMap.Entries.{find}
use Rattle.ctr_rec.specs.declared.record.SlogItem.{SlogItem}
use Rattle.ctr_rec.specs.declared.record.SlogItem.TheVariants.{AllocOf, FreeOf, CreateOf, DropOf}
use Rattle.ctr_versions.specs.Engine.{SessionHeld}
use Rattle.ctr_versions.specs.Laws.{IsNoSessions}
use Rattle.ctr_meta.specs.Tables.{Tables, is_in}
use Rattle.ctr_paged.specs.area_Sound.{IsAmong, AreAllOnce, xids_in}
use Rattle.ctr_paged.specs.record_laws_Owed.{HasNoItems}
use Rattle.ctr_paged.specs.actions_Actions.{Action, Reclaims}

-- The items that are left, in the order of the secondary log; the transactions that are left; how
-- many turns of undo there were; and the first number that a transaction of the run may have.
pub record Undo : Type 0 where
  pub items : List SlogItem
  pub orphans : List ℕ
  pub turns : ℕ
  pub first : ℕ

-- how many turns there are to come
abbrev pub left_of : Undo → ℕ
left_of u = length u.items + length u.orphans

-- undo's list as a run begins
abbrev pub undo_at : Tables → Undo
undo_at tables = record {
  items = tables.items;
  orphans = xids_in tables.opens;
  turns = 0;
  first = tables.next;
}

-- an item is of one of these transactions, or of none
abbrev pub IsTheirs : List ℕ → SlogItem → Type 0
IsTheirs xs (AllocOf y p) = IsAmong y xs
IsTheirs xs (FreeOf p) = Unit {0}
IsTheirs xs (CreateOf y e) = IsAmong y xs
IsTheirs xs (DropOf y e) = IsAmong y xs

-- one of the sessions has this number
pub record IsSessions (sessions : List (ℕ × SessionHeld)) (x : ℕ) : Type 0 where
  pub s : ℕ
  pub session : SessionHeld
  pub at : find nat_cmp s sessions ≡ Some session
  pub me : session.me ≡ x

-- The items of the tables are those left of the start, and behind them those of this run, of which
-- none is of who is left; who is left is open, once, and no session's; and who else is open has
-- begun in this run, and is a session's.
pub record IsUndoLeft (tables : Tables) (sessions : List (ℕ × SessionHeld))
    (u : Undo) : Type 0 where
  pub run : List SlogItem
  pub items : tables.items ≡ u.items ++ run
  pub theirs : (i : SlogItem) → IsAmong i u.items → IsTheirs u.orphans i
  pub own : (x : ℕ) → IsAmong x u.orphans → HasNoItems x run
  pub are_open : (x : ℕ) → IsAmong x u.orphans → is_in x tables.opens ≡ true
  pub nobodys : (x : ℕ) → IsAmong x u.orphans → IsNoSessions sessions x
  pub once : AreAllOnce u.orphans
  pub begun : (x : ℕ) → is_in x tables.opens ≡ true → IsAmong x u.orphans ⊎ (u.first ≤ x)
  pub seated : (x : ℕ) → is_in x tables.opens ≡ true
      → IsAmong x u.orphans ⊎ IsSessions sessions x
  pub numbered : u.first ≤ tables.next

-- Of a start: what was done and what is left is the size of its undo.
abbrev pub CountsTo : ℕ → Undo → Type 0
CountsTo size u = u.turns + left_of u ≡ size

-- What is done doesn't give back a page that is on undo's list: that page left its chain before the
-- start, and undo gives it back.
abbrev pub SparesUndo : Action → Undo → Type 0
SparesUndo a u = (p : ℕ) → a ≡ Reclaims p → IsAmong (FreeOf p) u.items → ⊥
