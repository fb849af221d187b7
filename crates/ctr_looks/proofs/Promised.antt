-- A row that is locked in a World: what its Write will do is what the model says of it.
use Rattle.std.proofs.Common.{◌≡◌, ℕ, ℤ, true, false, [], ◌∷◌, ◌++◌, Some, refl, sym, ◌∙◌, ap, subst}
use Rattle.std.specs.Prelude.{◌&&◌, is_some}
use Rattle.std.proofs.lemmas.Bool.{false≢true}
use Rattle.ctr_disk.specs.declared.disk.Disk.{Ghosts}
use Rattle.ctr_types.specs.declared.statement.Statement.{Statement}
use Rattle.ctr_types.specs.declared.statement.Statement.TheVariants as st
use Rattle.ctr_types.specs.declared.tape.Act.TheVariants as act
use Rattle.ctr_types.specs.declared.tape.Reply.TheVariants as reply
use Rattle.ctr_model.specs.declared.state.State.{State}
use Rattle.ctr_model.specs.declared.state.Transaction.{Transaction}
use Rattle.ctr_model.specs.Refusals.{creates, has_lock, is_lock_of, key_written}
use Rattle.ctr_model.specs.Reply.{with_granted}
use Rattle.ctr_model.specs.State.{same_name, transaction_of, view, with_transaction}
use Rattle.ctr_model.proofs.Sessions.{find-put-same}
use Rattle.ctr_versions.proofs.Written.{int_itself, same_itself}
use Rattle.ctr_area.specs.Areas.{Title}
use Rattle.ctr_area.specs.Sound.{IsAmong}
use Rattle.ctr_record_effects.specs.States.{area_in}
use Rattle.ctr_session_world.specs.actions_Facts.{HasTable}
use Rattle.ctr_store.specs.Store.{View}
use Rattle.ctr_session_world.specs.kept_Walk.{Mind}
use Rattle.ctr_session_world.specs.kept_Turns.{Start, entry_of, state_now}
use Rattle.ctr_asking.specs.ctr_wishes.declared.making.Prepared.{Prepared}
use Rattle.ctr_asking.specs.ctr_wishes.Models.{IsModels}
use Rattle.ctr_looks.specs.declared.taking.RowAt.{RowAt}
use Rattle.ctr_session_world.specs.World.{SessionsHeld}
use Rattle.ctr_session_world.specs.Told.{IsNextOf}
use Rattle.ctr_looks.specs.Granting.{IsUnopposed, WritesRowOf}
use Rattle.ctr_looks.specs.Locking.{MayWriteRow}
use Rattle.ctr_looks.proofs.Granted.{any_last, granted_row, told_now, u}

-- whoever writes a row makes no table
pub row_makes_none : (statement : Statement) (key : ℤ) → key_written statement ≡ Some key → creates statement ≡ false
row_makes_none st.Begin key is = refl
row_makes_none st.Commit key is = refl
row_makes_none st.Rollback key is = refl
row_makes_none (st.Create table schema) key is = absurd (false≢true (ap is_some is))
row_makes_none (st.DropTable table) key is = refl
row_makes_none (st.Insert table values) key is = refl
row_makes_none (st.Select table at) key is = refl
row_makes_none (st.Update table sets at) key is = refl
row_makes_none (st.Delete table at) key is = refl

module _ {D : Type 0} (g : Ghosts D) (c : Start) (opened : D) (a b : View D) (h : SessionsHeld) (s : ℕ) (statement : Statement) (next : IsNextOf g c opened a b h s statement 0) (free : IsUnopposed next act.Lock) (row : RowAt) (of : WritesRowOf next row)
    (prepared : Prepared) where
  abbrev t : Transaction
  t = free.seat.t

  abbrev state : State
  state = state_now c next.mind

  abbrev title : Title
  title = (area_in a.now).title row.entry

  abbrev mine : Transaction
  mine = u g c opened a b h s statement next free row of

  locks_it : has_lock title.name row.key mine ≡ true
  locks_it = any_last (is_lock_of title.name row.key) t.locks (record { table = row.name.now; key = row.key })
      (λ i. subst (λ n. same_name row.name.now n ≡ true) (sym of.title) (same_itself row.name.now) i && int_itself row.key i)

  pub may_write : IsModels (view (with_transaction s (with_granted act.Lock (Some statement) t) state) (with_granted act.Lock (Some statement) t)) title.columns statement prepared
      → (w : Mind) → w.tape ≡ next.mind.tape ++ entry_of s next.e act.Lock reply.Granted ∷ [] → IsAmong (HasTable row.entry title) (w.facts s) → MayWriteRow c s statement w row.entry prepared
  may_write models w longer counts = record {
    t = mine;
    is_t = ap (λ (q : State). transaction_of q s) (told_now g c opened a b h s statement next free row of w longer) ∙ find-put-same s mine state.sessions;
    title = title;
    key = row.key;
    named = of.named ∙ ap Some (sym of.title);
    written = of.key;
    lock = locks_it;
    counts = counts;
    models = subst (λ (q : State). IsModels (view q mine) title.columns statement prepared) (sym (told_now g c opened a b h s statement next free row of w longer))
        (subst (λ (q : Transaction). IsModels (view (with_transaction s q state) q) title.columns statement prepared) (granted_row g c opened a b h s statement next free row of) models);
  }
