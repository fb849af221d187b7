-- A session that asks why its next act is refused: what it is answered says what it may tell, or what it has found.
use Rattle.std.proofs.Common.{◌≡◌, ℕ, ◌<◌, ℤ, true, List, Some, None, sym, ◌∙◌, subst}
use Rattle.ctr_disk.specs.declared.disk.Disk.{Ghosts}
use Rattle.ctr_types.specs.declared.statement.Statement.{Statement}
use Rattle.ctr_types.specs.declared.tape.Act.{Act}
use Rattle.ctr_model.specs.Refusals.{refusal_of, table_of}
use Rattle.ctr_versions.specs.Engine.{IsCalm}
use Rattle.ctr_area.specs.Images.{is_live}
use Rattle.ctr_names.specs.Search.{IsEntryFound}
use Rattle.ctr_record_effects.specs.States.{area_in}
use Rattle.ctr_asking.specs.ctr_wishes.actions_Sites.{site_of}
use Rattle.ctr_store.specs.Store.{View}
use Rattle.ctr_locks.specs.Shows.{IsOnlyEntry}
use Rattle.ctr_session_world.specs.kept_Turns.{Start, InTransaction, state_now}
use Rattle.ctr_session_world.specs.txn_Held.{TxnHeld, txn_of}
use Rattle.ctr_asking.specs.declared.asker.Asker.{Asker}
use Rattle.ctr_asking.specs.declared.asker.Answer.{Answer}
use Rattle.ctr_asking.specs.declared.asker.Answer.TheVariants.{Refused, Free}
use Rattle.ctr_asking.specs.Asking.{Asking, FindsTable, IsInCatalog, refusal_told, sees_for}
use Rattle.ctr_session_world.specs.World.{SessionsHeld, names_in}
use Rattle.ctr_session_world.specs.Told.{IsNextOf}
use Rattle.ctr_looks.specs.Granting.{IsUnopposed}
use Rattle.ctr_looks.specs.Asked.{IsAsked, IsLook, StandsAt}
use Rattle.ctr_looks.proofs.Unrefused.{refused_so}

module _ {D : Type 0} (g : Ghosts D) (c : Start) (opened : D) (a b : View D) (asker : Asker) (statement : Statement) (next : IsNextOf g c opened a b (record { txns = asker.txns.now; locks = asker.locks.now }) asker.s statement 0)
    (txn : TxnHeld) (in_it : txn_of asker.s asker.txns.now ≡ Some txn) (seat : InTransaction c next.mind asker.s) (same : seat.session ≡ txn.session) (calm : IsCalm txn.session seat.t) (x : Act) (look : IsLook x)
    (k : Asking asker (site_of a.now)) (state_is : k.state ≡ state_now c next.mind) (t_is : k.t ≡ seat.t) (txn_is : k.txn ≡ txn) where
  abbrev h : SessionsHeld
  h = record { txns = asker.txns.now; locks = asker.locks.now }

  refusal_is : refusal_of k.state asker.s k.t x statement ≡ refusal_of (state_now c next.mind) asker.s seat.t x statement
  refusal_is = λ i. refusal_of (state_is i) asker.s (t_is i) x statement

  abbrev is_free : refusal_of k.state asker.s k.t x statement ≡ None → IsUnopposed next x
  is_free none = record { txn = txn; in_it = in_it; seat = seat; same = same; calm = calm; free = sym refusal_is ∙ none }

  -- the laws of a table that is found
  abbrev pub IsUndropped : Type 0
  IsUndropped = (act : Act) (asked : Statement) (name : List ℕ) (e : ℕ) → table_of asked ≡ Some name → refusal_of k.state asker.s k.t act asked ≡ None → IsEntryFound (sees_for (site_of a.now) k.txn) name (area_in a.now) e
      → (names_in a.now e ≡ name) × (is_live ((area_in a.now).title e) ≡ true) × (((area_in a.now).title e).dropper ≡ 0)

  abbrev pub IsOnly : Type 0
  IsOnly = (act : Act) (asked : Statement) (name : List ℕ) (e : ℕ) (key : ℤ) → table_of asked ≡ Some name → refusal_of k.state asker.s k.t act asked ≡ None → IsEntryFound (sees_for (site_of a.now) k.txn) name (area_in a.now) e
      → IsOnlyEntry (names_in a.now) asker.s e key asker.locks.now

  stands : IsUndropped → IsOnly → (name : List ℕ) (e : ℕ) → table_of statement ≡ Some name → (none : refusal_of k.state asker.s k.t x statement ≡ None) → e < 32 → IsEntryFound (sees_for (site_of a.now) k.txn) name (area_in a.now) e → StandsAt (is_free none) name e
  stands undropped only name e is none lt found =
      let its = undropped x statement name e is none found in
      record {
        inside = lt;
        found = subst (λ (t : TxnHeld). IsEntryFound (sees_for (site_of a.now) t) name (area_in a.now) e) txn_is found;
        title = its.0;
        live = its.1;
        undropped = its.2;
        only = λ key. only x statement name e key is none found;
      }

  pub answered : IsUndropped → IsOnly → (name : List ℕ) → table_of statement ≡ Some name → (answer : Answer) → refusal_told answer ≡ refusal_of k.state asker.s k.t x statement → IsInCatalog answer
      → ((n : List ℕ) → table_of statement ≡ Some n → FindsTable (site_of a.now) k.txn statement n answer) → IsAsked next x answer
  answered undropped only name is (Refused why) told inside finds = refused_so g c opened a b h asker.s statement next x look seat.t seat.is_t why (sym refusal_is ∙ sym told)
  answered undropped only name is (Free None) told inside finds = ((finds name is).0, is_free (sym told))
  answered undropped only name is (Free (Some e)) told inside finds = (is_free (sym told), λ n at. stands undropped only n e at (sym told) inside (finds n at).1)
