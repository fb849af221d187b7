-- A name that is held, in a World: the state that its Lock leaves, and what its session has and counts on then.
use Rattle.std.proofs.Common.{◌≡◌, inl, inr, ℕ, ◌==◌, ℤ, true, false, cond, List, [], ◌∷◌, ◌++◌, Option, Some, None, refl, sym, ◌∙◌, ap, subst}
use Rattle.std.proofs.lemmas.Bool.{eq-eqb}
use Rattle.std.specs.Ordering.{nat_cmp}
use Rattle.std.specs.FinMap.Entries.{find}
use Rattle.ctr_disk.specs.declared.disk.Disk.{Ghosts}
use Rattle.ctr_types.specs.declared.statement.Statement.{Statement}
use Rattle.ctr_types.specs.declared.tape.Act.TheVariants as act
use Rattle.ctr_types.specs.declared.tape.Reply.TheVariants as reply
use Rattle.ctr_model.specs.declared.state.State.{State}
use Rattle.ctr_model.specs.declared.state.Transaction.{Transaction}
use Rattle.ctr_model.specs.Database.{table_at}
use Rattle.ctr_model.specs.Refusals.{changes_schema, key_written, table_of}
use Rattle.ctr_model.specs.Reply.{next_from, on_table, with_granted, with_lock}
use Rattle.ctr_model.specs.State.{has_name, same_name, transaction_of, view, with_transaction}
use Rattle.ctr_model.proofs.Sessions.{find-put-same}
use Rattle.ctr_versions.specs.Engine.{SessionHeld}
use Rattle.ctr_versions.proofs.Written.{same_itself}
use Rattle.ctr_area.specs.Areas.{Title}
use Rattle.ctr_area.specs.Sound.{IsAmong}
use Rattle.ctr_record_effects.specs.States.{area_in}
use Rattle.ctr_session_world.specs.actions_Facts.{Fact, HasNoPageBut, HasTable, HoldsFact, IsOpen}
use Rattle.ctr_asking.specs.ctr_wishes.actions_Sites.{site_of}
use Rattle.ctr_store.specs.Store.{View}
use Rattle.ctr_locks.specs.Held.{LocksOfSession, HoldsName, OfSession, held_by_session, locks_key, session_locks}
use Rattle.ctr_locks.specs.Shows.{HoldShows, ShowsKeyLocks}
use Rattle.ctr_session_world.specs.kept_Carried.{IsUnderLock}
use Rattle.ctr_session_world.specs.kept_Tables.{AreTables}
use Rattle.ctr_session_world.proofs.kept_Tables.{uses_more}
use Rattle.ctr_session_world.specs.kept_Walk.{Mind, with_facts}
use Rattle.ctr_session_world.specs.kept_Turns.{Start, InTransaction, carrying, entry_of, state_now}
use Rattle.ctr_session_world.specs.stops_World.{KeepsWorld}
use Rattle.ctr_session_world.specs.txn_Held.{TxnsHeld, run_of}
use Rattle.ctr_session_world.specs.ctr_told.Turning.{facts_idle}
use Rattle.ctr_session_world.proofs.ctr_told.Idle.{carried_more, idle_blanks, idle_more, idle_none, idle_open}
use Rattle.ctr_session_world.specs.World.{SessionsHeld, IsInTable, names_in}
use Rattle.ctr_session_world.specs.Told.{IsNextOf, IsActTold}
use Rattle.ctr_looks.specs.declared.tables.TableWrite.{TableWrite}
use Rattle.ctr_looks.specs.Asked.{IsFoundFor, StandsAt}
use Rattle.ctr_looks.specs.Granting.{CountsOnFound, IsUnopposed, KeepsSessions}
use Rattle.ctr_looks.specs.Locking.{IsWriteOf, MayWriteTable}
use Rattle.ctr_looks.proofs.Granted.{MayCount, any_last, facts_twice}
use Rattle.ctr_looks.proofs.Tabled.{absent, found_of}
use Rattle.ctr_session_world.proofs.Alike.{held_more, in_table_still}
use Rattle.ctr_session_world.proofs.Changed.{changed_told}
use Rattle.ctr_session_world.proofs.Standing.{told_state}

module _ {D : Type 0} (g : Ghosts D) (c : Start) (opened : D) (a b : View D) (h : SessionsHeld) (s : ℕ) (statement : Statement) (next : IsNextOf g c opened a b h s statement 0) (free : IsUnopposed next act.Lock)
    (name : List ℕ) (named : table_of statement ≡ Some name) (keyless : key_written statement ≡ None) where
  abbrev w : Mind
  w = next.mind

  abbrev state : State
  state = state_now c w

  abbrev t : Transaction
  t = free.seat.t

  abbrev pub u : Transaction
  u = with_lock None name t

  abbrev now : State
  now = with_transaction s u state

  granted_name : with_granted act.Lock (Some statement) t ≡ u
  granted_name = ap (λ k. on_table (with_lock k) (table_of statement) t) keyless ∙ ap (λ n. on_table (with_lock None) n t) named

  pub told_now : (v : Mind) → v.tape ≡ w.tape ++ entry_of s next.e act.Lock reply.Granted ∷ [] → state_now c v ≡ now
  told_now v longer = told_state g c opened a b h s statement 0 next act.Lock reply.Granted v longer
      ∙ ap (λ o. next_from state s o act.Lock (Some statement) reply.Granted) free.seat.is_t ∙ ap (λ t. with_transaction s t state) granted_name

  module _ (more : List Fact) (tables : AreTables more) (mine_is : (f : ℕ) (l : Title) → IsAmong (HasTable f l) (w.facts s) → IsAmong (HasTable f l) (facts_idle ++ more)) (mid : SessionsHeld) (left : List (ℕ × LocksOfSession))
      (room : KeepsSessions s h mid) (holds : OfSession s (HoldsName name) mid.locks left) where
    others : (q : ℕ) → (q == s) ≡ false → held_by_session q left ≡ held_by_session q h.locks
    others q two = holds.others q two ∙ room.locks.others q two

    own : (f : ℕ) (k : ℤ) → session_locks s f k left ≡ true → IsInTable a.now f u (facts_idle ++ more)
    own f k is =
        let was : session_locks s f k h.locks ≡ true = sym (ap (λ l. locks_key f k (record (held_by_session s mid.locks) { keys = l })) holds.here.keys ∙ room.locks.here.keys f k) ∙ is in
        in_table_still a.now a.now f t u (w.facts s) (facts_idle ++ more) refl (λ n is. held_more n name t.holds is) (mine_is f ((area_in a.now).title f)) (next.world.tables s f k t was free.seat.is_t)

    pub held_told : (new : TxnsHeld) (v : Mind) → v.tape ≡ w.tape ++ entry_of s next.e act.Lock reply.Granted ∷ [] → v.facts ≡ with_facts s (facts_idle ++ more) w.facts → v.run ≡ run_of new → v.undo ≡ w.undo
        → ((f : ℕ) → (area_in b.now).title f ≡ (area_in a.now).title f) → ShowsKeyLocks (names_in a.now) mid.locks state → HoldShows → KeepsWorld g c opened b v → (told : IsActTold next (record { txns = new; locks = left }) act.Lock reply.Granted) × (told.mind ≡ v)
    held_told new v longer facts run_now undo same shows hold keeps =
        changed_told g c opened a b h s statement 0 next act.Lock reply.Granted u now refl v (facts_idle ++ more) facts left others same own new run_now undo longer (told_now v longer)
        (hold (names_in a.now) s name mid.locks left state t holds shows free.seat.is_t) (more, tables, refl) keeps

  -- ---- the table that was found is counted on

  module _ (e : ℕ) (stands : StandsAt free name e) (v : Mind) (longer : v.tape ≡ w.tape ++ entry_of s next.e act.Lock reply.Granted ∷ []) (keeps : KeepsWorld g c opened b v) (session : SessionHeld) (at : find nat_cmp s v.run.sessions ≡ Some session)
      (more : List Fact) (tables : AreTables more) (facts : v.facts s ≡ facts_idle ++ more) (same : (area_in b.now).title e ≡ (area_in a.now).title e) where
    abbrev title : Title
    title = (area_in a.now).title e

    abbrev pub counted : List Fact
    counted = HasTable e title ∷ more

    abbrev seat_now : InTransaction c v s
    seat_now = record { session = session; t = u; at = at; is_t = ap (λ (q : State). transaction_of q s) (told_now v longer) ∙ find-put-same s u state.sessions }

    holds_it : has_name title.name u.holds ≡ true
    holds_it = any_last (λ n. same_name n title.name) t.holds name (subst (λ n. same_name name n ≡ true) (sym stands.title) (same_itself name))

    under_all : (f : Fact) → IsAmong f counted → IsUnderLock u f (site_of b.now)
    under_all f (inl is) = subst (λ f. IsUnderLock u f (site_of b.now)) (sym is) (stands.live, inr holds_it, stands.undropped)
    under_all f (inr in_) = keeps.walks.scene.carried.under s u f seat_now.is_t (idle_more more (v.facts s) facts f in_)

    held_all : (f : Fact) → IsAmong f counted → HoldsFact session.me f (site_of b.now)
    held_all f (inl is) = subst (λ f. HoldsFact session.me f (site_of b.now)) (sym is) same
    held_all f (inr in_) = keeps.walks.scene.carried.held s session f at (idle_more more (v.facts s) facts f in_)

    pub found_kept : MayCount g → KeepsWorld g c opened b (carrying s (facts_idle ++ counted) v)
    found_kept may = may c opened b v s seat_now (facts_idle ++ counted) keeps
        (carried_more session.me u u (site_of b.now) (site_of b.now) counted (tt, tables) under_all (uses_more u u (λ n is. is) (λ n is. is)) held_all
        (keeps.walks.scene.carried.held s session IsOpen at (idle_open more (v.facts s) facts))
        (keeps.walks.scene.carried.held s session (HasNoPageBut []) at (idle_none more (v.facts s) facts)))
        (λ p h in_. absurd (idle_blanks counted (tt, tables) p h in_))

-- what was among these is among them with a table more
one_more : (x : Fact) (e : ℕ) (its : Title) (more : List Fact) → IsAmong x (facts_idle ++ more) → IsAmong x (facts_idle ++ HasTable e its ∷ more)
one_more x e its more (inl is) = inl is
one_more x e its more (inr (inl is)) = inr (inl is)
one_more x e its more (inr (inr there)) = inr (inr (inr there))

-- a session carries these facts
carried_now : (s : ℕ) (mine : List Fact) (facts : ℕ → List Fact) → with_facts s mine facts s ≡ mine
carried_now s mine facts = ap (λ x. cond x mine (facts s)) (eq-eqb s s refl)

module _ {D : Type 0} (g : Ghosts D) (c : Start) (opened : D) (a b : View D) (h : SessionsHeld) (s : ℕ) (statement : Statement) (next : IsNextOf g c opened a b h s statement 0) (free : IsUnopposed next act.Lock)
    (name : List ℕ) (named : table_of statement ≡ Some name) (keyless : key_written statement ≡ None) where
  -- the hold is told, and the table that was found is counted on
  module _ (more : List Fact) (tables : AreTables more) (mine_is : (f : ℕ) (l : Title) → IsAmong (HasTable f l) (next.mind.facts s) → IsAmong (HasTable f l) (facts_idle ++ more)) (mid : SessionsHeld) (left : List (ℕ × LocksOfSession))
      (room : KeepsSessions s h mid) (holds : OfSession s (HoldsName name) mid.locks left) (new : TxnsHeld) (v : Mind) (longer : v.tape ≡ next.mind.tape ++ entry_of s next.e act.Lock reply.Granted ∷ []) (facts : v.facts ≡ with_facts s (facts_idle ++ more) next.mind.facts)
      (run_now : v.run ≡ run_of new) (undo : v.undo ≡ next.mind.undo) (session : SessionHeld) (at : find nat_cmp s v.run.sessions ≡ Some session) (same : (f : ℕ) → (area_in b.now).title f ≡ (area_in a.now).title f) (shows : ShowsKeyLocks (names_in a.now) mid.locks (state_now c next.mind)) (hold : HoldShows)
      (keeps : KeepsWorld g c opened b v) (may : MayCount g) where
    pub held_found : (found : Option ℕ) → IsFoundFor free name found
        → (told : IsActTold next (record { txns = new; locks = left }) act.Lock reply.Granted) × CountsOnFound None found (area_in a.now).title (told.mind.facts s)
    held_found None stands = ((held_told g c opened a b h s statement next free name named keyless more tables mine_is mid left room holds new v longer facts run_now undo same shows hold keeps).0, tt)
    held_found (Some e) stands =
        let title = (area_in a.now).title e in
        let mine : List Fact = facts_idle ++ HasTable e title ∷ more in
        let facts_v = ap (λ (f : ℕ → List Fact). f s) facts ∙ carried_now s (facts_idle ++ more) next.mind.facts in
        let kept = found_kept g c opened a b h s statement next free name named keyless e stands v longer keeps session at more tables facts_v (same e) may in
        let its = held_told g c opened a b h s statement next free name named keyless (HasTable e title ∷ more) (tt, tables) (λ f l in_. one_more (HasTable f l) e title more (mine_is f l in_)) mid left room holds new (carrying s mine v) longer
        (ap (with_facts s mine) facts ∙ facts_twice s mine (facts_idle ++ more) next.mind.facts) run_now undo same shows hold kept in (
          its.0,
          subst (λ (m : Mind). IsAmong (HasTable e title) (m.facts s)) (sym its.1) (subst (λ l. IsAmong (HasTable e title) l) (sym (carried_now s mine v.facts)) (inr (inr (inl refl)))),
        )

  -- so its Write may be begun
  pub held_so : (write : TableWrite) → changes_schema statement ≡ true → IsWriteOf statement write → IsFoundFor free name (found_of write) → (v : Mind) → v.tape ≡ next.mind.tape ++ entry_of s next.e act.Lock reply.Granted ∷ []
      → CountsOnFound None (found_of write) (area_in a.now).title (v.facts s) → MayWriteTable c s statement v write
  held_so write schema is stands v longer counts =
      let state = state_now c next.mind in
      let t = free.seat.t in
      let mine = with_lock None name t in
      let now = told_now g c opened a b h s statement next free name named keyless v longer in
      record {
        t = mine;
        is_t = ap (λ (q : State). transaction_of q s) now ∙ find-put-same s mine state.sessions;
        name = name;
        named = named;
        schema = schema;
        holds = any_last (λ n. same_name n name) t.holds name (same_itself name);
        is = is;
        makes = λ it. subst (λ (q : State). table_at (view q mine) name ≡ None) (sym now) (absent state s t statement name named (subst (IsWriteOf statement) it is) free.free);
        drops = λ e it. record {
          title = (area_in a.now).title e;
          named = (subst (λ w. IsFoundFor free name (found_of w)) it stands).title;
          counts = subst (λ w. CountsOnFound None (found_of w) (area_in a.now).title (v.facts s)) it counts;
        };
      }
