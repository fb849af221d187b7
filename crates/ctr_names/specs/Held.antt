-- Who keeps a name from others: the session that holds it, or recovery.
use Rattle.std.specs.Prelude.{◌≡◌, ◌⊎◌, ℕ, true, List, [], ◌∷◌, Some}
use Rattle.std.specs.Ordering.{nat_cmp}
use Rattle.std.specs.FinMap.Entries.{find}
use Rattle.ctr_record_laws.specs.rec_SlogItem.{SlogItem}
use Rattle.ctr_record_laws.specs.rec_SlogItem.TheVariants.{AllocOf, FreeOf, CreateOf, DropOf}
use Rattle.ctr_record_laws.specs.model_declared_state_State.{State}
use Rattle.ctr_record_laws.specs.model_Transaction.{Transaction}
use Rattle.ctr_record_laws.specs.model_State.{has_name}
use Rattle.ctr_record_laws.specs.versions_Engine.{SessionHeld}
use Rattle.ctr_record_laws.specs.versions_Laws.{IsNoSessions}
use Rattle.ctr_record_laws.specs.area_Areas.{Title}
use Rattle.ctr_record_laws.specs.area_Sound.{IsSchemaItem}

-- a session has this number, and its transaction holds the name
pub record IsNameHeldBy (sessions : List (ℕ × SessionHeld)) (state : State) (y : ℕ) (name : List ℕ)
    : Type 0 where
  pub s : ℕ
  pub session : SessionHeld
  pub t : Transaction
  pub at : find nat_cmp s sessions ≡ Some session
  pub is_t : find nat_cmp s state.sessions ≡ Some t
  pub me : session.me ≡ y
  pub holds : has_name name t.holds ≡ true

-- An item of a table is by a session that holds the table's name, or recovery holds the name; and
-- recovery holds a name only while there is an item of it that is nobody's.
pub record HoldsNames (items : List SlogItem) (title : ℕ → Title)
    (sessions : List (ℕ × SessionHeld)) (state : State) : Type 0 where
  pub owned : (y f : ℕ) → IsSchemaItem y f items
      → IsNameHeldBy sessions state y (title f).name
      ⊎ (IsNoSessions sessions y × (has_name (title f).name state.stuck ≡ true))
  pub left : (name : List ℕ) → has_name name state.stuck ≡ true
      → (y : ℕ) × (f : ℕ) × IsSchemaItem y f items × ((title f).name ≡ name)
      × IsNoSessions sessions y

-- the names of the tables that items made or dropped
abbrev pub names_of_items : (ℕ → Title) → List SlogItem → List (List ℕ)
names_of_items title [] = []
names_of_items title (AllocOf x p ∷ is) = names_of_items title is
names_of_items title (FreeOf p ∷ is) = names_of_items title is
names_of_items title (CreateOf x e ∷ is) = (title e).name ∷ names_of_items title is
names_of_items title (DropOf x e ∷ is) = (title e).name ∷ names_of_items title is

-- Two lists have the same items of tables in them.
pub record HaveSameTables (old new : List SlogItem) : Type 0 where
  pub back : (y f : ℕ) → IsSchemaItem y f new → IsSchemaItem y f old
  pub still : (y f : ℕ) → IsSchemaItem y f old → IsSchemaItem y f new

-- the tables of items have the names that they had
abbrev pub KeepNames : List SlogItem → (ℕ → Title) → (ℕ → Title) → Type 0
KeepNames items title now = (y f : ℕ) → IsSchemaItem y f items → (now f).name ≡ (title f).name
