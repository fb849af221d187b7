-- What each action is to the model: what is owed beside, by locks and by the order of commits, and
-- to which scene it leads.
use Rattle.std.specs.Prelude.{◌≡◌, ◌⊎◌, ℕ, ◌+◌, true, false, ◌&&◌, nat_lt, Bool, List, [], ◌∷◌, ◌++◌, length, Option, Some, None}
use Rattle.std.specs.Ordering.{nat_cmp}
use Rattle.std.specs.FinMap.Entries.{find, put}
use Rattle.ctr_model.specs.declared.state.Transaction.{Transaction}
use Rattle.ctr_model.specs.Maps.{without}
use Rattle.ctr_model.specs.Reply.{without_name}
use Rattle.ctr_model.specs.State.{has_name, with_transaction, without_transaction}
use Rattle.ctr_versions.specs.Chains.{changed_since}
use Rattle.ctr_versions.specs.Changes.{IsOld}
use Rattle.ctr_versions.specs.Engine.{SessionHeld}
use Rattle.ctr_versions.specs.Keys.{row_written, schema_writes}
use Rattle.ctr_versions.specs.Laws.{IsGranted, IsNoSessions, with_own}
use Rattle.ctr_versions.specs.Steps.{AreUntouched, IsFreeKey}
use Rattle.ctr_versions.specs.Versions.{Made, IsTableOf, name_written}
use Rattle.ctr_versions.specs.Xids.{number_of, taken}
use Rattle.ctr_names.specs.meta_Items.{left_out}
use Rattle.ctr_names.specs.meta_Wanted.{Wanted}
use Rattle.ctr_names.specs.meta_Wanted.TheVariants.{Creation, Dropping}
use Rattle.ctr_actions.specs.area_Changes.{new_title}
use Rattle.ctr_actions.specs.area_Images.{is_committed_in, made_by_entry}
use Rattle.ctr_actions.specs.area_Sound.{IsSchemaItem}
use Rattle.ctr_actions.specs.record_laws_Owed.{RowMove}
use Rattle.ctr_actions.specs.Sites.{Site}
use Rattle.ctr_actions.specs.Actions.{Action, Begins, Writes, Creates, Drops, Commits, Uncreates, Undrops, Aborts, Trims, Cuts, MakesDead}
use Rattle.ctr_paged.specs.Paged.{Run, xids_of, engine_at}
use Rattle.ctr_paged.specs.Shown.{Scene}

-- A session has this number, 0 where none is drawn yet, and its transaction hasn't asked for its
-- commit.
pub record IsActing (scene : Scene) (x : ℕ) : Type 0 where
  pub s : ℕ
  pub session : SessionHeld
  pub t : Transaction
  pub at : find nat_cmp s scene.run.sessions ≡ Some session
  pub is_t : find nat_cmp s scene.state.sessions ≡ Some t
  pub unasked : t.asked ≡ None
  pub me : session.me ≡ x

-- the scene in which the session has this transaction
abbrev pub with_its : ℕ → Transaction → Scene → Scene
with_its s t scene = record scene { state = with_transaction s t scene.state }

-- the run in which it is held so
abbrev pub held_as : ℕ → SessionHeld → Run → Run
held_as s session run = record run { sessions = put nat_cmp s session run.sessions }

-- the scene without the session and its transaction
abbrev pub without_its : ℕ → Scene → Scene
without_its s scene = record {
  run = record scene.run { sessions = without nat_cmp s scene.run.sessions };
  state = without_transaction s scene.state;
}

-- the scene once the session's commit is answered
abbrev pub answered_one : ℕ → Scene → Scene
answered_one s scene = record {
  run = record scene.run {
    sessions = without nat_cmp s scene.run.sessions;
    answered = scene.run.answered + 1;
  };
  state = without_transaction s (record scene.state { answered = scene.state.answered + 1 });
}

-- as a session is held that begins: it has no number yet
abbrev pub begun_now : Site → Run → SessionHeld
begun_now site run = record {
  me = 0;
  snapshot = taken (xids_of site.tables run.commits) run.answered;
  undoing = false;
}

-- a session has no number
abbrev pub IsReader : ℕ → Run → Type 0
IsReader s run = (b : SessionHeld) → find nat_cmp s run.sessions ≡ Some b → b.me ≡ 0

-- the first transaction's names are held by the second too
abbrev pub HoldsAll : Transaction → Transaction → Type 0
HoldsAll t u = (name : List ℕ) → has_name name t.holds ≡ true → has_name name u.holds ≡ true

-- A number is drawn with the first lock, before which nothing is written.
pub record DrawsNumber (x : ℕ) (a b : Scene) : Type 0 where
  pub by : IsActing a 0
  pub granted : Transaction
  pub is_granted : IsGranted by.t granted
  pub unwritten : by.t.own ≡ []
  pub leads : b ≡ record {
    run = held_as by.s (record by.session { me = x }) a.run;
    state = with_transaction by.s granted a.state;
  }

-- A row is written in the table of a name, where nobody else has written the key.
pub record WritesRow (x : ℕ) (m : RowMove) (site : Site) (a b : Scene) : Type 0 where
  pub by : IsActing a x
  pub table : List ℕ
  pub on : IsTableOf (number_of (engine_at site a.run).xids) (engine_at site a.run).versions
      by.session.me by.t.snapshot table m.entry
  pub free : IsFreeKey (engine_at site a.run) a.state.sessions by.s m.entry m.key
  pub leads : b ≡ with_its by.s (with_own (row_written table m.key m.row) by.t) a

-- The table of a name that the session holds is made, or is dropped, by a session that isn't within
-- its rollback.
pub record WritesName (x : ℕ) (name : List ℕ) (made : Option Made) (a b : Scene) : Type 0 where
  pub by : IsActing a x
  pub calm : by.session.undoing ≡ false
  pub holds : has_name name by.t.holds ≡ true
  pub leads : b ≡ with_its by.s (with_own (name_written name made) by.t) a

-- the name is what it was at the session's snapshot, whoever asked since
abbrev pub IsUnchanged : {x : ℕ} → (a : Scene) → List ℕ → IsActing a x → Type 0
IsUnchanged a name by = changed_since by.t.snapshot (schema_writes name a.state.asked) ≡ None

-- A commit is asked for: nobody has written a row of a table that the transaction made or dropped.
pub record AsksCommit (x : ℕ) (a b : Scene) : Type 0 where
  pub by : IsActing a x
  pub calm : by.session.undoing ≡ false
  pub untouched : AreUntouched a.state.sessions by.s by.t
  pub leads : b ≡ record {
    run = record a.run { commits = a.run.commits ++ x ∷ [] };
    state = with_transaction by.s (record by.t { asked = Some (length a.state.asked + 1) })
        (record a.state { asked = a.state.asked ++ by.t.own ∷ [] });
  }

-- A session's rollback ends with its transaction.
pub record EndsRollback (x : ℕ) (a b : Scene) : Type 0 where
  pub by : IsActing a x
  pub leads : b ≡ without_its by.s a

-- A session's own item is undone within its rollback.
pub record UndoesOwn (x : ℕ) (a b : Scene) : Type 0 where
  pub by : IsActing a x
  pub undoing : by.session.undoing ≡ true
  pub leads : b ≡ a

-- an item of the table's name
abbrev pub IsItemOfName : ℕ → Wanted → Site → ℕ → ℕ → Type 0
IsItemOfName e w site y f = IsSchemaItem y f (left_out w site.tables.items)
    × ((site.area.title f).name ≡ (site.area.title e).name)

-- Recovery undoes an item of one that no session has: others of the name are left, of whom no
-- session has one either; or it was the last of the name, which is released.
pub record UndoesOrphans (x e : ℕ) (w : Wanted) (site : Site) (a b : Scene) : Type 0 where
  pub nobodys : IsNoSessions a.run.sessions x
  pub leads : ((y : ℕ) × (f : ℕ) × IsItemOfName e w site y f × IsNoSessions a.run.sessions y
      × (b ≡ a))
      ⊎ (((y f : ℕ) → IsItemOfName e w site y f → ⊥)
      × (b ≡ record a {
        state = record a.state { stuck = without_name (site.area.title e).name a.state.stuck };
      }))

-- By a test of who is seen by everyone, from the low number on.
abbrev pub PassOld : ℕ → (ℕ → Bool) → Site → Scene → Type 0
PassOld low passes site a = IsOld (number_of (engine_at site a.run).xids) low passes

-- The test is that of the low mark: committed, and below it.
pub record IsMark (passes : ℕ → Bool) (site : Site) : Type 0 where
  pub mark : ℕ
  pub is : (x : ℕ) → passes x ≡ (is_committed_in site.tables x && nat_lt x mark)

-- What an action is to the model, from a low number on.
abbrev pub MovesTo : ℕ → ℕ → Action → Site → Scene → Scene → Type 0
MovesTo low x Begins site a b = DrawsNumber x a b
MovesTo low x (Writes m) site a b = WritesRow x m site a b
MovesTo low x (Creates e name columns left) site a b =
    WritesName x name (Some (made_by_entry (e, new_title x name columns))) a b
MovesTo low x (Drops e) site a b = (moves : WritesName x (site.area.title e).name None a b)
    × IsUnchanged a (site.area.title e).name moves.by
MovesTo low x Commits site a b = AsksCommit x a b
MovesTo low x (Uncreates e) site a b = UndoesOwn x a b ⊎ UndoesOrphans x e (Creation e) site a b
MovesTo low x (Undrops e) site a b = UndoesOwn x a b ⊎ UndoesOrphans x e (Dropping e) site a b
MovesTo low x Aborts site a b = EndsRollback x a b ⊎ (IsNoSessions a.run.sessions x × (b ≡ a))
MovesTo low x (Trims passes e at way) site a b = PassOld low passes site a × (b ≡ a)
MovesTo low x (Cuts passes e at q) site a b = PassOld low passes site a × (b ≡ a)
MovesTo low x (MakesDead passes e) site a b =
    PassOld low passes site a × IsMark passes site × (b ≡ a)
MovesTo low x action site a b = b ≡ a
