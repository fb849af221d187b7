-- A session whose next act is a Lock or a Read: what its transaction is, and what it is answered.
use Rattle.std.proofs.Common.{◌≡◌, inl, inr, ℕ, true, false, Some, None, refl, sym, ◌∙◌, ap, subst}
use Rattle.ctr_disk.specs.declared.disk.Disk.{Ghosts}
use Rattle.ctr_types.specs.declared.statement.Statement.{Statement}
use Rattle.ctr_types.specs.declared.tape.Act.{Act}
use Rattle.ctr_types.specs.declared.tape.Act.TheVariants as act
use Rattle.ctr_types.specs.declared.tape.Refusal.{Refusal}
use Rattle.ctr_types.specs.declared.tape.Reply.{Reply}
use Rattle.ctr_types.specs.declared.tape.Reply.TheVariants as reply
use Rattle.ctr_types.specs.declared.tape.Refusal.TheVariants as refusal
use Rattle.ctr_model.specs.declared.state.State.{State}
use Rattle.ctr_model.specs.declared.state.Transaction.{Transaction}
use Rattle.ctr_model.specs.Refusals.{refusal_of}
use Rattle.ctr_model.specs.Reply.{MayStandFor, refused_or, reply_from, rows_read, reply_to}
use Rattle.ctr_model.specs.State.{transaction_of, view}
use Rattle.ctr_model.specs.Tape.{Allowed, IsInTurn}
use Rattle.ctr_versions.specs.Engine.{IsCalm}
use Rattle.ctr_versions.proofs.Keys.{known}
use Rattle.ctr_legal.specs.Ready.{IsReady}
use Rattle.ctr_asking.specs.ctr_wishes.actions_Sites.{Site, site_of}
use Rattle.ctr_store.specs.Store.{View}
use Rattle.ctr_session_world.specs.kept_Turns.{Start, InTransaction, KeepsRun, MayCome, Telling, state_now}
use Rattle.ctr_session_world.specs.kept_Walk.{Mind}
use Rattle.ctr_session_world.proofs.kept_Walking.{keeps_reached}
use Rattle.ctr_session_world.proofs.ctr_told.Acting.{is_ready}
use Rattle.ctr_session_world.specs.World.{SessionsHeld}
use Rattle.ctr_session_world.specs.Told.{IsNextOf}
use Rattle.ctr_looks.specs.Asked.{IsLook, IsFirstOf}
use Rattle.ctr_session_world.proofs.Standing.{comes}

-- who rolls back does nothing else
abbrev pub RollsBackAlone : Type 0
RollsBackAlone = (c : Start) (now s : ℕ) (site : Site) (w : Mind) (seat : InTransaction c w s) (e : Telling c now s) (a : Act) (r : Reply) → KeepsRun c now site w
    → seat.session.undoing ≡ true → MayCome c w e a r → (a ≡ act.Rollback) × (r ≡ reply.RolledBack)

module _ {D : Type 0} (g : Ghosts D) (c : Start) (opened : D) (a b : View D) (h : SessionsHeld) (s : ℕ) (statement : Statement) (next : IsNextOf g c opened a b h s statement 0) where
  abbrev w : Mind
  w = next.mind

  abbrev state : State
  state = state_now c w

  module _ (seat : InTransaction c w s) (alone : RollsBackAlone) where
    abbrev r : Act → Reply
    r x = reply_to state s x (Some statement)

    ready : (x : Act) → MayCome c w next.e x (r x) → IsReady state next.e.statement x (Some seat.t)
    ready x may = is_ready c (g.moment_of a.disk) s w next.e x (r x) may
        (keeps_reached c.lines c.moment c.base c.stuck c.size (g.moment_of a.disk) (site_of a.now) w next.world.keeps.walks) seat

    steady : (x : Act) → MayCome c w next.e x (r x) → (x ≡ act.Rollback → ⊥) → seat.session.undoing ≡ false
    steady x may not_it = known seat.session.undoing (λ yes. absurd (not_it (alone c (g.moment_of a.disk) s (site_of a.now) w seat next.e x (r x) next.world.keeps.walks yes may).0)) (λ no. no)

    -- it hasn't asked for its commit, and isn't within its rollback
    pub calm : (x : Act) → IsLook x → IsFirstOf x statement → IsCalm seat.session seat.t
    calm act.Lock look first =
        let may = comes g c opened a b h s statement 0 next act.Lock (r act.Lock) (first state s) tt (inl refl) in
        ((ready act.Lock may).1, steady act.Lock may (λ is. absurd (cc is)))
    calm act.Read look first =
        let may = comes g c opened a b h s statement 0 next act.Read (r act.Read) (first state s) tt (inl refl) in
        (ready act.Read may, steady act.Read may (λ is. absurd (cc is)))
    calm act.Begin look first = absurd look
    calm act.Write look first = absurd look
    calm act.Ask look first = absurd look
    calm act.Answer look first = absurd look
    calm act.Rollback look first = absurd look
    calm (act.Release name) look first = absurd look

  stands : (x : Act) (r p : Reply) → p ≡ reply_to state s x (Some statement) → MayStandFor statement p r → Allowed state s x statement r
  stands x r p is may = inr (subst (λ q. MayStandFor statement q r) is may)

  -- what the model refuses
  pub refused_so : (x : Act) → IsLook x → (t : Transaction) → transaction_of state s ≡ Some t → (why : Refusal) → refusal_of state s t x statement ≡ Some why → Allowed state s x statement (reply.Refused why)
  refused_so act.Lock look t is why told = inl (sym (ap (λ o. reply_from state s o act.Lock statement) is ∙ ap (λ o. refused_or o reply.Granted) told))
  refused_so act.Read look t is why told = inl (sym (ap (λ o. reply_from state s o act.Read statement) is ∙ ap (λ o. refused_or o (reply.Rows (record { rows = rows_read (view state t) statement }))) told))
  refused_so act.Begin look t is why told = absurd look
  refused_so act.Write look t is why told = absurd look
  refused_so act.Ask look t is why told = absurd look
  refused_so act.Answer look t is why told = absurd look
  refused_so act.Rollback look t is why told = absurd look
  refused_so (act.Release name) look t is why told = absurd look

  -- and who is in no transaction
  pub refused_without : (x : Act) → IsLook x → transaction_of state s ≡ None → Allowed state s x statement (reply.Refused refusal.NoTransaction)
  refused_without act.Lock look none = inl (sym (ap (λ o. reply_from state s o act.Lock statement) none))
  refused_without act.Read look none = inl (sym (ap (λ o. reply_from state s o act.Read statement) none))
  refused_without act.Begin look none = absurd look
  refused_without act.Write look none = absurd look
  refused_without act.Ask look none = absurd look
  refused_without act.Answer look none = absurd look
  refused_without act.Rollback look none = absurd look
  refused_without (act.Release name) look none = absurd look

  -- want of memory may stand in the place of what is granted or read
  pub wants : (x : Act) → IsLook x → (seat : InTransaction c w s) → refusal_of state s seat.t x statement ≡ None → Allowed state s x statement (reply.Refused refusal.OutOfMemory)
  wants act.Lock look seat none = stands act.Lock (reply.Refused refusal.OutOfMemory) reply.Granted (sym (ap (λ o. reply_from state s o act.Lock statement) seat.is_t ∙ ap (λ o. refused_or o reply.Granted) none)) refl
  wants act.Read look seat none =
      stands act.Read (reply.Refused refusal.OutOfMemory) (reply.Rows (record { rows = rows_read (view state seat.t) statement })) (sym (ap (λ o. reply_from state s o act.Read statement) seat.is_t ∙ ap (λ o. refused_or o (reply.Rows (record { rows = rows_read (view state seat.t) statement }))) none)) refl
  wants act.Begin look seat none = absurd look
  wants act.Write look seat none = absurd look
  wants act.Ask look seat none = absurd look
  wants act.Answer look seat none = absurd look
  wants act.Rollback look seat none = absurd look
  wants (act.Release name) look seat none = absurd look

-- what a Lock or a Read waits for: nothing
pub in_turn : (at : State) (s : ℕ) (x : Act) → IsLook x → IsInTurn at s x
in_turn at s act.Lock look = tt
in_turn at s act.Read look = tt
in_turn at s act.Begin look = absurd look
in_turn at s act.Write look = absurd look
in_turn at s act.Ask look = absurd look
in_turn at s act.Answer look = absurd look
in_turn at s act.Rollback look = absurd look
in_turn at s (act.Release name) look = absurd look
