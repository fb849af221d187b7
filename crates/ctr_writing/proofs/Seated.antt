-- A session whose next act is a Write, in a World: what it has, and that the Write may come.
use Rattle.std.proofs.Common.{◌≡◌, inl, ℕ, ◌<◌, Option, Some, None, refl, sym, ◌∙◌, ap, subst}
use Rattle.std.specs.Prelude.{is_some, slice_get}
use Rattle.std.specs.Option.{option_map}
use Rattle.std.specs.Ordering.{nat_cmp}
use Rattle.std.specs.FinMap.Entries.{find}
use Rattle.std.proofs.lemmas.Bool.{false≢true}
use Rattle.ctr_disk.specs.declared.disk.Disk.{Ghosts}
use Rattle.ctr_types.specs.declared.statement.Statement.{Statement}
use Rattle.ctr_types.specs.declared.tape.Act.TheVariants as act
use Rattle.ctr_types.specs.declared.tape.Reply.{Reply}
use Rattle.ctr_model.specs.declared.state.State.{State}
use Rattle.ctr_model.specs.declared.state.Transaction.{Transaction}
use Rattle.ctr_model.specs.Reply.{reply_to}
use Rattle.ctr_model.specs.State.{transaction_of}
use Rattle.ctr_model.specs.Tape.{Allowed, acts_of}
use Rattle.ctr_versions.specs.Engine.{SessionHeld, IsCalm}
use Rattle.ctr_versions.proofs.Keys.{known, some_is}
use Rattle.ctr_legal.specs.Ready.{MayWrite}
use Rattle.ctr_looks.specs.actions_Sites.{site_of}
use Rattle.ctr_looks.specs.paged_Paged.{Run}
use Rattle.ctr_store.specs.Store.{View}
use Rattle.ctr_looks.specs.kept_Turns.{Start, InTransaction, MayCome, state_now}
use Rattle.ctr_looks.specs.kept_Walk.{Mind}
use Rattle.ctr_looks.proofs.kept_Walking.{keeps_reached}
use Rattle.ctr_looks.specs.txn_Held.{IsOneOfEight, TxnHeld, me_in, number_drawn, txn_of}
use Rattle.ctr_looks.proofs.ctr_told.Acting.{is_ready}
use Rattle.ctr_looks.specs.ctr_session_world.Told.{IsNextOf}
use Rattle.ctr_looks.specs.ctr_session_world.World.{SessionsHeld}
use Rattle.ctr_looks.proofs.ctr_session_world.Standing.{RunFinds, comes}
use Rattle.ctr_looks.proofs.Unrefused.{RollsBackAlone}

-- the number of a transaction that a session has
number_of : (o : Option TxnHeld) (b : SessionHeld) → option_map (λ (t : TxnHeld). t.session) o ≡ Some b → me_in o ≡ b.me
number_of None b is = absurd (false≢true (ap is_some is))
number_of (Some t) b is = ap (λ (d : SessionHeld). d.me) (some_is t.session b is)

module _ {D : Type 0} (g : Ghosts D) (c : Start) (opened : D) (a b : View D) (h : SessionsHeld) (s : ℕ) (statement : Statement) (next : IsNextOf g c opened a b h s statement 1) (one : IsOneOfEight s) (finds : RunFinds)
    (t : Transaction) (is_t : transaction_of (state_now c next.mind) s ≡ Some t) (second : slice_get (acts_of (state_now c next.mind) s statement) 1 ≡ Some act.Write) where
  abbrev w : Mind
  w = next.mind

  abbrev state : State
  state = state_now c w

  abbrev its : (b : SessionHeld) × (find nat_cmp s w.run.sessions ≡ Some b)
  its = let held = next.world.keeps.walks.scene.shown.paged.shows.inside s t is_t in (held.0, held.1)

  abbrev pub seat : InTransaction c w s
  seat = record { session = its.0; t = t; at = its.1; is_t = is_t }

  -- its number is the one that the program has
  pub me_is : number_drawn s h.txns ≡ seat.session.me
  me_is = number_of (txn_of s h.txns) seat.session (sym (finds s h.txns one) ∙ ap (λ (r : Run). find nat_cmp s r.sessions) (sym next.world.run_is) ∙ seat.at)

  -- its Write may come, with a reply that is allowed
  pub may_come : (r : Reply) → Allowed state s act.Write statement r → MayCome c w next.e act.Write r
  may_come r allowed = comes g c opened a b h s statement 1 next act.Write r second tt allowed

  abbrev reply : Reply
  reply = reply_to state s act.Write (Some statement)

  -- it was granted its Lock
  pub ready : MayWrite state t statement
  ready = subst (λ q. MayWrite state t q) next.is (is_ready c (g.moment_of a.disk) s w next.e act.Write reply (may_come reply (inl refl))
      (keeps_reached c.lines c.moment c.base c.stuck c.size (g.moment_of a.disk) (site_of a.now) w next.world.keeps.walks) seat)

  -- so it has a number, and isn't within its rollback
  pub some : 0 < seat.session.me
  some = (next.world.keeps.walks.scene.begun.drawn s t seat.session is_t seat.at).writer ready.writer

  pub calm : RollsBackAlone → IsCalm seat.session t
  calm alone = (
    ready.unasked,
    known seat.session.undoing (λ yes. absurd (cc (alone c (g.moment_of a.disk) s (site_of a.now) w seat next.e act.Write reply next.world.keeps.walks yes (may_come reply (inl refl))).0)) (λ no. no),
  )
