-- A session that asks in a scene that is shown, and what it is answered.
use Rattle.std.specs.Prelude.{◌≡◌, ℕ, ◌==◌, ◌<◌, ℤ, T, Bool, true, false, List, Option, Some, None, IsSome, ⊤, Result, Ok, if◌then◌else◌}
use Rattle.std.specs.Ordering.{nat_cmp}
use Rattle.std.specs.FinMap.Entries.{is_sorted}
use Rattle.ctr_types.specs.declared.statement.Statement.{Statement}
use Rattle.ctr_types.specs.declared.tape.Refusal.{Refusal}
use Rattle.ctr_model.specs.declared.state.State.{State}
use Rattle.ctr_model.specs.declared.state.Transaction.{Transaction}
use Rattle.ctr_model.specs.State.{has_name, transaction_of}
use Rattle.ctr_model.specs.Refusals.{creates, first_of, name_refusals}
use Rattle.ctr_versions.specs.Engine.{IsCalm}
use Rattle.ctr_rec.specs.declared.decoding.BadRecord.{BadRecord}
use Rattle.ctr_meta.specs.Seen.{xid_is_seen}
use Rattle.ctr_area.specs.Images.{is_live}
use Rattle.ctr_legal.specs.Kept.{IsKept}
use Rattle.ctr_names.specs.Search.{IsEntryFound, IsNoneFound}
use Rattle.ctr_wishes.specs.actions_Sites.{Site}
use Rattle.ctr_wishes.specs.ctr_reading.catalog_Finding.{entry_seen, EndsEntries}
use Rattle.ctr_txn.specs.paged_Shown.{IsShown}
use Rattle.ctr_locks.specs.Held.{LocksOfSession, session_locks}
use Rattle.ctr_locks.specs.Shows.{ShowsKeyLocks}
use Rattle.ctr_txn.specs.Held.{TxnHeld, TxnsHeld, IsOneOfEight, txn_of, scene_with}
use Rattle.ctr_asking.specs.declared.asker.Asker.{Asker}
use Rattle.ctr_asking.specs.declared.asker.Answer.{Answer}
use Rattle.ctr_asking.specs.declared.asker.Answer.TheVariants.{Refused, Free}

-- ---- who asks

-- the number that a transaction has drawn, or none
abbrev pub me_held : TxnHeld → Option ℕ
me_held txn = if txn.session.me == 0 then None else Some txn.session.me

-- what its session sees of a transaction, by the tables' own test
abbrev pub sees_for : Site → TxnHeld → ℕ → Bool
sees_for site txn = xid_is_seen site.tables txn.session.snapshot (me_held txn)

-- a session is in a transaction
pub record IsInside (s : ℕ) (txns : TxnsHeld) : Type 0 where
  pub one : IsOneOfEight s
  pub some : IsSome (txn_of s txns)

-- its search of the catalog for a name ends with this, whatever checks the entries
abbrev pub FindsFor : Site → TxnHeld → List ℕ → Option ℕ → Type 0
FindsFor site txn name found = (check : ℕ → Result ⊤ BadRecord)
    × EndsEntries check (entry_seen site.tables txn.session.snapshot (me_held txn) name site.area)
    (Ok found)

-- ---- in a scene

-- The lock of a key is of a table that is live and that nobody has dropped, unless whoever has it
-- holds the table's name.
abbrev pub AreOfTables : Site → List (ℕ × LocksOfSession) → State → Type 0
AreOfTables site locks state = (r e : ℕ) (key : ℤ) (u : Transaction)
    → session_locks r e key locks ≡ true → transaction_of state r ≡ Some u
    → has_name (site.area.title e).name u.holds ≡ false
    → (e < 32) × (is_live (site.area.title e) ≡ true) × ((site.area.title e).dropper ≡ 0)

-- The site shows a state of the model, with the transactions and the locks that are held, and with
-- the names that recovery holds. The session that asks is in a transaction, hasn't asked for its
-- commit, and isn't within its rollback.
pub record Asking (asker : Asker) (site : Site) : Type 0 where
  pub low : ℕ
  pub state : State
  pub txn : TxnHeld
  pub t : Transaction
  pub one : IsOneOfEight asker.s
  pub in_it : txn_of asker.s asker.txns.now ≡ Some txn
  pub is_t : transaction_of state asker.s ≡ Some t
  pub calm : IsCalm txn.session t
  pub shown : IsShown low site (scene_with asker.txns.now state)
  pub kept : IsKept state
  pub sorted : T (is_sorted nat_cmp state.sessions)
  pub stuck : asker.stuck.now ≡ state.stuck
  pub locks : ShowsKeyLocks (λ e. (site.area.title e).name) asker.locks.now state
  pub tables : AreOfTables site asker.locks.now state

-- The session has found the table of the name, and nothing that tells of the name refuses it.
pub record HasPassed {asker : Asker} {site : Site} (k : Asking asker site) (statement : Statement)
    (name : List ℕ) (e : ℕ) : Type 0 where
  pub finds : FindsFor site k.txn name (Some e)
  pub free : first_of (name_refusals k.state asker.s k.t statement name) ≡ None

-- ---- what it is answered

-- why it is refused, where it is
abbrev pub refusal_told : Answer → Option Refusal
refusal_told (Refused why) = Some why
refusal_told (Free found) = None

-- where it isn't, this entry is told
abbrev pub AnswersEntry : Option ℕ → Answer → Type 0
AnswersEntry found (Refused why) = Unit {0}
AnswersEntry found (Free told) = told ≡ found

-- an entry that is told is one of the catalog
abbrev pub IsInCatalog : Answer → Type 0
IsInCatalog (Refused why) = Unit {0}
IsInCatalog (Free None) = Unit {0}
IsInCatalog (Free (Some e)) = e < 32

-- Where it isn't refused, the entry that is told is that of the table which the session finds under
-- the name; none is told where the table is to be made, and then it finds none.
abbrev pub FindsTable : Site → TxnHeld → Statement → List ℕ → Answer → Type 0
FindsTable site txn statement name (Refused why) = Unit {0}
FindsTable site txn statement name (Free None) =
    (creates statement ≡ true) × IsNoneFound (sees_for site txn) name site.area
FindsTable site txn statement name (Free (Some e)) =
    (creates statement ≡ false) × IsEntryFound (sees_for site txn) name site.area e
