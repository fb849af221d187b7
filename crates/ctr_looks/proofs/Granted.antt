-- A row that is locked, in a World: the state that its Lock leaves, and what its session has and counts on then.
use Rattle.std.proofs.Common.{◌≡◌, inl, inr, ℕ, ◌<◌, ◌==◌, ℤ, Bool, true, false, cond, not, List, [], ◌∷◌, ◌++◌, Some, refl, sym, ◌∙◌, ap, subst, arith}
use Rattle.std.specs.Prelude.{◌&&◌, ◌||◌, is_some, nat_eq, slice_get}
use Rattle.std.specs.List.{list_any}
use Rattle.std.specs.declared.cmp.Ordering.{Ordering}
use Rattle.std.specs.declared.cmp.Ordering.TheVariants.{Less, Equal, Greater}
use Rattle.std.specs.Ordering.{int_eq, is_eq, nat_cmp}
use Rattle.std.specs.Cmp.{nat_cmp_total}
use Rattle.std.specs.FinMap.Entries.{by_order, find, put}
use Rattle.std.proofs.lemmas.Bool.{and_parts, eq-eqb, eqb-true, false≢true}
use Rattle.std.proofs.lemmas.Cmp.{tied_itself}
use Rattle.ctr_disk.specs.declared.disk.Disk.{Ghosts}
use Rattle.ctr_types.specs.declared.statement.Statement.{Statement}
use Rattle.ctr_types.specs.declared.statement.Statement.TheVariants as st
use Rattle.ctr_types.specs.declared.tape.Act.TheVariants as act
use Rattle.ctr_types.specs.declared.tape.Reply.TheVariants as reply
use Rattle.ctr_model.specs.declared.state.State.{State}
use Rattle.ctr_model.specs.declared.state.Transaction.{Transaction}
use Rattle.ctr_model.specs.Maps.{without}
use Rattle.ctr_model.specs.Refusals.{changes_schema, key_written, table_of}
use Rattle.ctr_model.specs.Reply.{next_from, on_table, refused_or, reply_from, with_granted, with_lock, with_use}
use Rattle.ctr_model.specs.State.{has_name, same_name, transaction_of, with_transaction}
use Rattle.ctr_model.specs.Tape.{Allowed, acts_of}
use Rattle.ctr_model.proofs.Sessions.{find-put-other, find-put-same}
use Rattle.ctr_versions.specs.Engine.{SessionHeld}
use Rattle.ctr_versions.proofs.Keys.{known}
use Rattle.ctr_versions.proofs.Written.{same_itself}
use Rattle.ctr_page.specs.declared.header.Header.{Header}
use Rattle.ctr_area.specs.Areas.{Title}
use Rattle.ctr_area.specs.Sound.{IsAmong}
use Rattle.ctr_record_effects.specs.States.{area_in}
use Rattle.ctr_session_world.specs.actions_Facts.{Fact, HasBlank, HasTable, HoldsFact, IsOpen, HasNoPageBut}
use Rattle.ctr_asking.specs.ctr_wishes.actions_Sites.{site_of}
use Rattle.ctr_store.specs.Store.{View}
use Rattle.ctr_session_world.proofs.ctr_told.ctr_extend.Carrying.{live_state}
use Rattle.ctr_locks.specs.Held.{LocksOfSession, held_by_session, locks_key, session_locks, session_uses, uses_name}
use Rattle.ctr_locks.specs.Shows.{LockLeavesLocks, ShowsKeyLocks, UseLeavesLocks}
use Rattle.ctr_session_world.specs.kept_Carried.{IsUnderLock}
use Rattle.ctr_session_world.specs.kept_Tables.{AreTables}
use Rattle.ctr_session_world.specs.kept_Walk.{Mind, with_facts}
use Rattle.ctr_session_world.specs.kept_Turns.{Start, Carries, InTransaction, carrying, entry_of, state_now}
use Rattle.ctr_session_world.proofs.kept_Tables.{uses_more}
use Rattle.ctr_session_world.specs.stops_World.{KeepsWorld}
use Rattle.ctr_session_world.specs.txn_Held.{TxnsHeld, run_of}
use Rattle.ctr_session_world.specs.ctr_told.Turning.{facts_idle, IdleCountsOn}
use Rattle.ctr_session_world.proofs.ctr_told.Idle.{carried_more, idle_blanks, idle_more, idle_none, idle_open}
use Rattle.ctr_looks.specs.declared.taking.RowAt.{RowAt}
use Rattle.ctr_session_world.specs.World.{SessionsHeld, IsInTable, names_in}
use Rattle.ctr_session_world.specs.Told.{IsNextOf, IsActTold}
use Rattle.ctr_looks.specs.Granting.{IsUnopposed, WritesRowOf, KeepsSessions, TakesRow}
use Rattle.ctr_session_world.proofs.Alike.{AreAlike, alike_itself, any_twice, in_table_still, shows_alike}
use Rattle.ctr_session_world.proofs.Changed.{changed_told, facts_own}
use Rattle.ctr_session_world.proofs.Standing.{told_state}

-- ---- lists

-- a map without a key is the same, whatever the key has
pub without-put : {X : Type 0} (s : ℕ) (x : X) (es : List (ℕ × X)) → without nat_cmp s (put nat_cmp s x es) ≡ without nat_cmp s es
without-put s x [] = ap (λ o. cond (not (is_eq o)) ((s, x) ∷ []) []) (tied_itself nat_cmp_total s)
without-put s x (e ∷ es) = by (nat_cmp s e.0) refl (without-put s x es)
  where
    by : (o : Ordering) → nat_cmp s e.0 ≡ o → without nat_cmp s (put nat_cmp s x es) ≡ without nat_cmp s es → without nat_cmp s (put nat_cmp s x (e ∷ es)) ≡ without nat_cmp s (e ∷ es)
    by Less is rest = ap (λ o. without nat_cmp s (by_order o ((s, x) ∷ e ∷ es) ((e.0, x) ∷ es) (e ∷ put nat_cmp s x es))) is
        ∙ ap (λ o. cond (not (is_eq o)) ((s, x) ∷ without nat_cmp s (e ∷ es)) (without nat_cmp s (e ∷ es))) (tied_itself nat_cmp_total s)
    by Equal is rest = ap (λ o. without nat_cmp s (by_order o ((s, x) ∷ e ∷ es) ((e.0, x) ∷ es) (e ∷ put nat_cmp s x es))) is
        ∙ ap (λ o. cond (not (is_eq o)) ((e.0, x) ∷ without nat_cmp s es) (without nat_cmp s es)) is ∙ sym (ap (λ o. cond (not (is_eq o)) (e ∷ without nat_cmp s es) (without nat_cmp s es)) is)
    by Greater is rest = ap (λ o. without nat_cmp s (by_order o ((s, x) ∷ e ∷ es) ((e.0, x) ∷ es) (e ∷ put nat_cmp s x es))) is
        ∙ ap (λ l. cond (not (is_eq (nat_cmp s e.0))) (e ∷ l) l) rest

-- what is pushed is there
pub any_last : {X : Type 0} (test : X → Bool) (xs : List X) (x : X) → test x ≡ true → list_any test (xs ++ x ∷ []) ≡ true
any_last test [] x is = ap (λ b. b || false) is
any_last test (y ∷ ys) x is = ap (λ b. test y || b) (any_last test ys x is) ∙ or_true (test y)
  where
    or_true : (b : Bool) → (b || true) ≡ true
    or_true true = refl
    or_true false = refl

-- a session carries other facts, whatever it carried
pub facts_twice : (s : ℕ) (mine was : List Fact) (facts : ℕ → List Fact) → with_facts s mine (with_facts s was facts) ≡ with_facts s mine facts
facts_twice s mine was facts = λ i r. twice (r == s) (facts r) i
  where
    twice : (x : Bool) (l : List Fact) → cond x mine (cond x was l) ≡ cond x mine l
    twice true l = refl
    twice false l = refl

pub none_below : (n : ℕ) → 0 < n → n ≡ 0 → ⊥
none_below n some is = omega (arith, some, is)

-- a session may count on other facts that hold
abbrev pub MayCount : {D : Type 0} → Ghosts D → Type 0
MayCount {D} g = (c : Start) (opened : D) (a : View D) (w : Mind) (s : ℕ) (seat : InTransaction c w s) (mine : List Fact) → KeepsWorld g c opened a w → Carries seat.session.me seat.t mine (site_of a.now)
    → ((p : ℕ) (h : Header) → IsAmong (HasBlank p h) mine → IsAmong (HasBlank p h) (w.facts s)) → KeepsWorld g c opened a (carrying s mine w)

-- ---- acts

-- whoever writes a row locks it first
pub row_locks_first : (state : State) (s : ℕ) (statement : Statement) (key : ℤ) → key_written statement ≡ Some key → slice_get (acts_of state s statement) 0 ≡ Some act.Lock
row_locks_first state s st.Begin key is = absurd (false≢true (ap is_some is))
row_locks_first state s st.Commit key is = absurd (false≢true (ap is_some is))
row_locks_first state s st.Rollback key is = absurd (false≢true (ap is_some is))
row_locks_first state s (st.Create table schema) key is = absurd (false≢true (ap is_some is))
row_locks_first state s (st.DropTable table) key is = absurd (false≢true (ap is_some is))
row_locks_first state s (st.Insert table values) key is = refl
row_locks_first state s (st.Select table at) key is = absurd (false≢true (ap is_some is))
row_locks_first state s (st.Update table sets at) key is = refl
row_locks_first state s (st.Delete table at) key is = refl

-- and neither makes nor drops a table
pub row_keeps_schema : (statement : Statement) (key : ℤ) → key_written statement ≡ Some key → changes_schema statement ≡ false
row_keeps_schema st.Begin key is = refl
row_keeps_schema st.Commit key is = refl
row_keeps_schema st.Rollback key is = refl
row_keeps_schema (st.Create table schema) key is = absurd (false≢true (ap is_some is))
row_keeps_schema (st.DropTable table) key is = absurd (false≢true (ap is_some is))
row_keeps_schema (st.Insert table values) key is = refl
row_keeps_schema (st.Select table at) key is = refl
row_keeps_schema (st.Update table sets at) key is = refl
row_keeps_schema (st.Delete table at) key is = refl

module _ {D : Type 0} (g : Ghosts D) (c : Start) (opened : D) (a b : View D) (h : SessionsHeld) (s : ℕ) (statement : Statement) (next : IsNextOf g c opened a b h s statement 0) (free : IsUnopposed next act.Lock) where
  abbrev w : Mind
  w = next.mind

  abbrev state : State
  state = state_now c w

  abbrev t : Transaction
  t = free.seat.t

  -- a Lock that nothing speaks against is granted
  is_granted : reply_from state s (transaction_of state s) act.Lock statement ≡ reply.Granted
  is_granted = ap (λ o. reply_from state s o act.Lock statement) free.seat.is_t ∙ ap (λ o. refused_or o reply.Granted) free.free

  pub grants : Allowed state s act.Lock statement reply.Granted
  grants = inl (sym is_granted)

  module _ (row : RowAt) (of : WritesRowOf next row) where
    abbrev name : List ℕ
    name = row.name.now

    abbrev e : ℕ
    e = row.entry

    abbrev key : ℤ
    key = row.key

    abbrev title : Title
    title = (area_in a.now).title e

    -- the transaction and the state that it leaves
    abbrev pub u : Transaction
    u = with_lock (Some key) name t

    abbrev pub now : State
    now = with_transaction s u state

    pub granted_row : with_granted act.Lock (Some statement) t ≡ u
    granted_row = ap (λ k. on_table (with_lock k) (table_of statement) t) of.key ∙ ap (λ n. on_table (with_lock (Some key)) n t) of.named

    pub told_now : (v : Mind) → v.tape ≡ w.tape ++ entry_of s next.e act.Lock reply.Granted ∷ [] → state_now c v ≡ now
    told_now v longer = told_state g c opened a b h s statement 0 next act.Lock reply.Granted v longer
        ∙ ap (λ o. next_from state s o act.Lock (Some statement) reply.Granted) free.seat.is_t ∙ ap (λ t. with_transaction s t state) granted_row

    -- it uses the table
    pub uses_it : has_name title.name u.uses ≡ true
    uses_it = any_last (λ n. same_name n title.name) t.uses name (subst (λ n. same_name name n ≡ true) (sym of.title) (same_itself name))

    -- ---- locks

    abbrev pub used_state : State
    used_state = with_transaction s (with_use name t) state

    module _ (mid left : List (ℕ × LocksOfSession)) (takes : TakesRow s row mid left) (shows : ShowsKeyLocks (names_in a.now) mid state) (uses : UseLeavesLocks) (lock : LockLeavesLocks) where
      shows_used : ShowsKeyLocks (names_in a.now) takes.mid used_state
      shows_used = uses (names_in a.now) s name mid takes.mid state t takes.uses shows free.seat.is_t

      is_used : session_uses s (names_in a.now e) takes.mid ≡ true
      is_used = takes.uses.here.uses (names_in a.now e) ∙ ap (λ b. b || uses_name (names_in a.now e) (held_by_session s mid)) (subst (λ n. same_name name n ≡ true) (sym of.title) (same_itself name))

      abbrev locked_t : Transaction
      locked_t = with_lock (Some key) (names_in a.now e) (with_use name t)

      abbrev locked_state : State
      locked_state = with_transaction s locked_t used_state

      shows_locked : ShowsKeyLocks (names_in a.now) left locked_state
      shows_locked = lock (names_in a.now) s e key takes.mid left used_state (with_use name t) is_used takes.locks shows_used (find-put-same s (with_use name t) state.sessions)

      alike : (r : ℕ) → AreAlike (transaction_of locked_state r) (transaction_of now r)
      alike r = known (r == s)
          (λ one. subst (λ q. AreAlike (transaction_of locked_state q) (transaction_of now q)) (sym (eqb-true r s one))
          (subst (λ o. AreAlike o (transaction_of now s)) (sym (find-put-same s locked_t used_state.sessions)) (subst (λ o. AreAlike (Some locked_t) o) (sym (find-put-same s u state.sessions)) (record {
            uses = λ n. sym (ap (λ m. has_name n ((t.uses ++ name ∷ []) ++ m ∷ [])) of.title ∙ any_twice (λ m. same_name m n) t.uses name);
            holds = refl;
            locks = ap (λ m. t.locks ++ record { table = m; key = key } ∷ []) (sym of.title);
          }))))
          (λ two. subst (λ o. AreAlike o (transaction_of now r)) (sym (find-put-other r s locked_t used_state.sessions two ∙ find-put-other r s (with_use name t) state.sessions two))
          (subst (AreAlike (transaction_of state r)) (sym (find-put-other r s u state.sessions two)) (alike_itself (transaction_of state r))))

      pub shows_now : ShowsKeyLocks (names_in a.now) left now
      shows_now = shows_alike (names_in a.now) left locked_state now alike shows_locked

    -- ---- what its session counts on

    module _ (more : List Fact) (tables : AreTables more) (mine_is : (f : ℕ) (l : Title) → IsAmong (HasTable f l) (w.facts s) → IsAmong (HasTable f l) more) where
      abbrev pub counted : List Fact
      counted = HasTable e title ∷ more

      abbrev pub mine : List Fact
      mine = facts_idle ++ counted

      module _ (mid : SessionsHeld) (left : List (ℕ × LocksOfSession)) (room : KeepsSessions s h mid) (takes : TakesRow s row mid.locks left) where
        pub others : (q : ℕ) → (q == s) ≡ false → held_by_session q left ≡ held_by_session q h.locks
        others q two = takes.locks.others q two ∙ takes.uses.others q two ∙ room.locks.others q two

        pub own : (f : ℕ) (k : ℤ) → session_locks s f k left ≡ true → IsInTable a.now f u mine
        own f k is = known (nat_eq e f && int_eq key k)
            (λ hit. subst (λ n. IsInTable a.now n u mine) (eqb-true e f (and_parts (nat_eq e f) (int_eq key k) hit).0)
            (record { inside = of.inside; there = live_state title.state of.live; counted = inr (inr (inr (inl refl))) }))
            (λ miss.
            let was : session_locks s f k h.locks ≡ true = sym (
            takes.locks.here.keys f k ∙ ap (λ b. b || locks_key f k (held_by_session s takes.mid)) miss
            ∙ ap (λ l. locks_key f k (record (held_by_session s mid.locks) { keys = l })) takes.uses.here.keys
            ∙ room.locks.here.keys f k
            ) ∙ is in
            in_table_still a.now a.now f t u (w.facts s) mine refl (λ n is. is) (λ in_. inr (inr (inr (mine_is f ((area_in a.now).title f) in_)))) (next.world.tables s f k t was free.seat.is_t))

      -- it may, from then on
      module _ (v : Mind) (keeps : KeepsWorld g c opened b v) (facts : v.facts s ≡ facts_idle ++ more) (seat : InTransaction c v s) (is_u : seat.t ≡ u) (same : (area_in b.now).title e ≡ title) where
        its : (f : Fact) → IsAmong f more → IsAmong f (v.facts s)
        its = idle_more more (v.facts s) facts

        under_all : (f : Fact) → IsAmong f counted → IsUnderLock u f (site_of b.now)
        under_all f (inl is) = subst (λ f. IsUnderLock u f (site_of b.now)) (sym is) (of.live, inl uses_it, of.undropped)
        under_all f (inr in_) = subst (λ t. IsUnderLock t f (site_of b.now)) is_u (keeps.walks.scene.carried.under s seat.t f seat.is_t (its f in_))

        held_all : (f : Fact) → IsAmong f counted → HoldsFact seat.session.me f (site_of b.now)
        held_all f (inl is) = subst (λ f. HoldsFact seat.session.me f (site_of b.now)) (sym is) same
        held_all f (inr in_) = keeps.walks.scene.carried.held s seat.session f seat.at (its f in_)

        pub carries_mine : Carries seat.session.me seat.t mine (site_of b.now)
        carries_mine = subst (λ t. Carries seat.session.me t mine (site_of b.now)) (sym is_u)
            (carried_more seat.session.me u u (site_of b.now) (site_of b.now) counted (tt, tables) under_all (uses_more u u (λ n is. is) (λ n is. is)) held_all
            (keeps.walks.scene.carried.held s seat.session IsOpen seat.at (idle_open more (v.facts s) facts))
            (keeps.walks.scene.carried.held s seat.session (HasNoPageBut []) seat.at (idle_none more (v.facts s) facts)))

      -- its entry is told, and it counts on the table
      module _ (mid : SessionsHeld) (left : List (ℕ × LocksOfSession)) (room : KeepsSessions s h mid) (takes : TakesRow s row mid.locks left) (shows : ShowsKeyLocks (names_in a.now) left now)
          (new : TxnsHeld) (v : Mind) (longer : v.tape ≡ w.tape ++ entry_of s next.e act.Lock reply.Granted ∷ []) (facts : v.facts ≡ with_facts s (facts_idle ++ more) w.facts) (run_now : v.run ≡ run_of new) (undo : v.undo ≡ w.undo)
          (session : SessionHeld) (at : find nat_cmp s v.run.sessions ≡ Some session) (same : (f : ℕ) → (area_in b.now).title f ≡ (area_in a.now).title f) (keeps : KeepsWorld g c opened b v) (may : MayCount g) where
        abbrev seat_now : InTransaction c v s
        seat_now = record { session = session; t = u; at = at; is_t = ap (λ (q : State). transaction_of q s) (told_now v longer) ∙ find-put-same s u state.sessions }

        facts_now : v.facts s ≡ facts_idle ++ more
        facts_now = ap (λ (f : ℕ → List Fact). f s) facts ∙ ap (λ x. cond x (facts_idle ++ more) (w.facts s)) (eq-eqb s s refl)

        abbrev counting : Mind
        counting = carrying s mine v

        keeps_now : KeepsWorld g c opened b counting
        keeps_now = may c opened b v s seat_now mine keeps (carries_mine v keeps facts_now seat_now refl (same e)) (λ p h in_. absurd (idle_blanks counted (tt, tables) p h in_))

        facts_are : counting.facts ≡ with_facts s mine w.facts
        facts_are = ap (with_facts s mine) facts ∙ facts_twice s mine (facts_idle ++ more) w.facts

        pub locked_told : (told : IsActTold next (record { txns = new; locks = left }) act.Lock reply.Granted) × IsAmong (HasTable e title) (told.mind.facts s)
        locked_told =
            let its = changed_told g c opened a b h s statement 0 next act.Lock reply.Granted u now refl counting mine facts_are left (others mid left room takes) same (own mid left room takes)
            new run_now undo longer (told_now counting longer) shows (counted, (tt, tables), refl) keeps_now in (
              its.0,
              subst (λ (m : Mind). IsAmong (HasTable e title) (m.facts s)) (sym its.1)
                  (subst (λ l. IsAmong (HasTable e title) l) (sym (facts_own g c opened a b h s statement 0 next act.Lock reply.Granted u now refl counting mine facts_are))
                  (inr (inr (inl refl)))),
            )

-- what a session without a number counts on between two statements
pub idle_reader : (n me : ℕ) (more facts : List Fact) → n ≡ me → me ≡ 0 → IdleCountsOn n more facts → facts ≡ []
idle_reader n me more facts is none (inl idle) = absurd (none_below n idle.0 (is ∙ none))
idle_reader n me more facts is none (inr idle) = idle.1
