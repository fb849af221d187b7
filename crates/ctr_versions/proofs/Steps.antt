-- The steps of an engine keep the invariant.
use Rattle.std.proofs.Common.{◌≡◌, ℕ, ◌+◌, ◌≤◌, ◌<◌, ◌==◌, ℤ, true, false, cond, not, List, [], ◌∷◌, ◌++◌, length, Option, Some, None, refl, sym, ◌∙◌, ap, subst, arith}
use Rattle.std.specs.Prelude.{unwrap_or, is_some, ◌&&◌, nat_lt}
use Rattle.std.specs.Option.{option_map}
use Rattle.std.specs.Ordering.{nat_cmp}
use Rattle.std.specs.FinMap.Entries.{find, put}
use Rattle.std.proofs.lemmas.Bool.{false≢true, true≢false, eq-eqb, eqb-true, le-ltb, or_left}
use Rattle.std.proofs.lemmas.List.{length_push}
use Rattle.ctr_model.specs.types_Row.{Row}
use Rattle.ctr_model.specs.declared.state.State.{State}
use Rattle.ctr_model.specs.declared.state.Transaction.{Transaction}
use Rattle.ctr_model.specs.Maps.{without}
use Rattle.ctr_model.specs.State.{with_transaction, without_transaction, begun}
use Rattle.ctr_model.proofs.Sessions.{known, find-put-other, find-put-same, find-without-other, find-without-same}
use Rattle.ctr_versions.specs.Chains.{written_by}
use Rattle.ctr_versions.specs.Keys.{row_written}
use Rattle.ctr_versions.specs.Xids.{IsSnapshotOf, Xids, place_from, number_of, taken, drawn, asked, aborted, AreSound}
use Rattle.ctr_snap.specs.Seeing.{SnapshotTaken, has}
use Rattle.ctr_versions.specs.Changes.{write}
use Rattle.ctr_versions.specs.Versions.{Made, Versions, names_at, rows_of, schemas, VersionsStand, Wrote, RowsSet, IsTableOf}
use Rattle.ctr_versions.specs.Engine.{SessionHeld, EngineHeld, IsBy, AreBy, IsDrawn, IsSeenIfOld, IsCalm, ShowsSession, Inside, AreBelow, HaveOwnXids, ShowsState}
use Rattle.ctr_versions.specs.Steps.{IsFreeKey, AreUntouched, engine_begun, engine_drawn}
use Rattle.ctr_versions.proofs.Xids.{not_before, has_here, has-append, has-minus-other, taken_is_of, taken_old, drawn_numbers, drawn_snapshots, drawn_sound, live_none, asked_numbers, asked_old, asked_snapshots, asked_sound, aborted_numbers, aborted_snapshots, aborted_sound}
use Rattle.ctr_versions.proofs.Engine.{renumbered_stands, renumbered_wrote, nothing_wrote}
use Rattle.ctr_versions.proofs.Asked.{longer, asked_stands, asked_wrote}
use Rattle.ctr_versions.proofs.By.{by_every, by_mapped, rows_by}
use Rattle.ctr_versions.proofs.Written.{set_wrote, write_stands, write_wrote}
use Rattle.ctr_versions.proofs.Changes.{write_others, write_all}
use Rattle.ctr_versions.proofs.Chains.{with_number}
use Rattle.std.proofs.lemmas.Map.{update_here, update_apart}

-- ---- one session of many

some_is : {A : Type 0} (x y : A) → Some x ≡ Some y → x ≡ y
some_is x y e = ap (λ o. unwrap_or o x) e

module _ (low low' a a' : ℕ) (xids xids' : Xids) (versions versions' : Versions) (transactions : List (ℕ × Transaction)) (sessions : List (ℕ × SessionHeld)) (s : ℕ)
    (inside : Inside low a xids versions transactions sessions)
    (others : (r : ℕ) (t : Transaction) (session : SessionHeld) → (r == s) ≡ false → find nat_cmp r transactions ≡ Some t → find nat_cmp r sessions ≡ Some session → ShowsSession low a xids versions session t → ShowsSession low' a' xids' versions' session t) where
  -- the session's transaction is another, and the others are as they were
  pub inside_put : (t : Transaction) (session : SessionHeld) → ShowsSession low' a' xids' versions' session t → Inside low' a' xids' versions' (put nat_cmp s t transactions) (put nat_cmp s session sessions)
  inside_put t session shows r u is = known (r == s)
      (λ same. let one = eqb-true r s same in
      let now : u ≡ t = some_is u t (sym is ∙ ap (λ q. find nat_cmp q (put nat_cmp s t transactions)) one ∙ find-put-same s t transactions) in
      (session, ap (λ q. find nat_cmp q (put nat_cmp s session sessions)) one ∙ find-put-same s session sessions, subst (ShowsSession low' a' xids' versions' session) (sym now) shows))
      (λ apart. let before = sym (find-put-other r s t transactions apart) ∙ is in
      let old = inside r u before in
      (old.0, find-put-other r s session sessions apart ∙ old.1, others r u old.0 apart before old.1 old.2))

  -- the session is in no transaction
  pub inside_without : Inside low' a' xids' versions' (without nat_cmp s transactions) (without nat_cmp s sessions)
  inside_without r u is = known (r == s)
      (λ same. absurd (false≢true (ap is_some (sym (ap (λ q. find nat_cmp q (without nat_cmp s transactions)) (eqb-true r s same) ∙ find-without-same s transactions) ∙ is))))
      (λ apart. let before = sym (find-without-other r s transactions apart) ∙ is in
      let old = inside r u before in
      (old.0, find-without-other r s sessions apart ∙ old.1, others r u old.0 apart before old.1 old.2))

module _ (low low' a a' : ℕ) (xids xids' : Xids) (versions versions' : Versions) (transactions : List (ℕ × Transaction)) (sessions : List (ℕ × SessionHeld)) (s : ℕ)
    (inside : Inside low a xids versions transactions sessions)
    (others : (r : ℕ) (t : Transaction) (session : SessionHeld) → (r == s) ≡ false → find nat_cmp r transactions ≡ Some t → find nat_cmp r sessions ≡ Some session → ShowsSession low a xids versions session t → ShowsSession low' a' xids' versions' session t) where
  -- the transaction is another in the same session
  pub inside_same : (t : Transaction) (session : SessionHeld) → find nat_cmp s sessions ≡ Some session → ShowsSession low' a' xids' versions' session t → Inside low' a' xids' versions' (put nat_cmp s t transactions) sessions
  inside_same t session at_s shows r u is = known (r == s)
      (λ same. let one = eqb-true r s same in
      let now : u ≡ t = some_is u t (sym is ∙ ap (λ q. find nat_cmp q (put nat_cmp s t transactions)) one ∙ find-put-same s t transactions) in
      (session, ap (λ q. find nat_cmp q sessions) one ∙ at_s, subst (ShowsSession low' a' xids' versions' session) (sym now) shows))
      (λ apart. let before = sym (find-put-other r s t transactions apart) ∙ is in
      let old = inside r u before in
      (old.0, old.1, others r u old.0 apart before old.1 old.2))

-- the session has another number, which no other has
apart_put : (s : ℕ) (session : SessionHeld) (sessions : List (ℕ × SessionHeld)) → ((r : ℕ) (b : SessionHeld) → (r == s) ≡ false → find nat_cmp r sessions ≡ Some b → 0 < session.me → b.me ≡ session.me → ⊥) → HaveOwnXids sessions → HaveOwnXids (put nat_cmp s session sessions)
apart_put s session sessions free apart p q a b at_p at_q positive same =
    let found : (r : ℕ) (b : SessionHeld) → find nat_cmp r (put nat_cmp s session sessions) ≡ Some b → (r == s) ≡ true → b ≡ session = λ r b at one. some_is b session (sym at ∙ ap (λ q. find nat_cmp q (put nat_cmp s session sessions)) (eqb-true r s one) ∙ find-put-same s session sessions) in
    let other : (r : ℕ) (b : SessionHeld) → find nat_cmp r (put nat_cmp s session sessions) ≡ Some b → (r == s) ≡ false → find nat_cmp r sessions ≡ Some b = λ r b at two. sym (find-put-other r s session sessions two) ∙ at in
    known (p == s)
    (λ p_one. known (q == s)
    (λ q_one. eqb-true p s p_one ∙ sym (eqb-true q s q_one))
    (λ q_two. absurd (free q b q_two (other q b at_q q_two) (subst (λ (c : SessionHeld). 0 < c.me) (found p a at_p p_one) positive) (sym same ∙ ap (λ (c : SessionHeld). c.me) (found p a at_p p_one)))))
    (λ p_two. known (q == s)
    (λ q_one. absurd (free p a p_two (other p a at_p p_two) (subst (λ n. 0 < n) (same ∙ ap (λ (c : SessionHeld). c.me) (found q b at_q q_one)) positive) (same ∙ ap (λ (c : SessionHeld). c.me) (found q b at_q q_one))))
    (λ q_two. apart p q a b (other p a at_p p_two) (other q b at_q q_two) positive same))

below_put : (s : ℕ) (session : SessionHeld) (next : ℕ) (sessions : List (ℕ × SessionHeld)) → session.me < next → AreBelow next sessions → AreBelow next (put nat_cmp s session sessions)
below_put s session next sessions lt below r b at = known (r == s)
    (λ one. subst (λ (c : SessionHeld). c.me < next) (some_is session b (sym (ap (λ q. find nat_cmp q (put nat_cmp s session sessions)) (eqb-true r s one) ∙ find-put-same s session sessions) ∙ at)) lt)
    (λ two. below r b (sym (find-put-other r s session sessions two) ∙ at))

below_without : (s next : ℕ) (sessions : List (ℕ × SessionHeld)) → AreBelow next sessions → AreBelow next (without nat_cmp s sessions)
below_without s next sessions below r b at = known (r == s)
    (λ one. absurd (false≢true (ap is_some (sym (ap (λ q. find nat_cmp q (without nat_cmp s sessions)) (eqb-true r s one) ∙ find-without-same s sessions) ∙ at))))
    (λ two. below r b (sym (find-without-other r s sessions two) ∙ at))

apart_without : (s : ℕ) (sessions : List (ℕ × SessionHeld)) → HaveOwnXids sessions → HaveOwnXids (without nat_cmp s sessions)
apart_without s sessions apart p q a b at_p at_q positive same =
    let other : (r : ℕ) (b : SessionHeld) → find nat_cmp r (without nat_cmp s sessions) ≡ Some b → find nat_cmp r sessions ≡ Some b = λ r b at. known (r == s)
    (λ one. absurd (false≢true (ap is_some (sym (ap (λ q. find nat_cmp q (without nat_cmp s sessions)) (eqb-true r s one) ∙ find-without-same s sessions) ∙ at))))
    (λ two. sym (find-without-other r s sessions two) ∙ at) in
    apart p q a b (other p a at_p) (other q b at_q) positive same

-- ---- what the others keep

module _ (low : ℕ) (engine : EngineHeld) (state : State) (shows : ShowsState low engine state) where
  -- the versions are others, and so may a transaction be
  pub set_versions : (new : Versions) (transactions : List (ℕ × Transaction)) → VersionsStand low (number_of engine.xids) state.base state.asked new → AreBy (IsDrawn engine.xids.next) new → Inside low state.answered engine.xids new transactions engine.sessions
      → ShowsState low (record engine { versions = new }) (record state { sessions = transactions })
  set_versions new transactions stands drawn inside = record {
    sound = shows.sound;
    counted = shows.counted;
    same_answered = shows.same_answered;
    answered = shows.answered;
    lowest = shows.lowest;
    stands = stands;
    drawn = drawn;
    inside = inside;
    below = shows.below;
    apart = shows.apart;
  }

  -- the numbers of transactions are others, where each has the commit number that it had, and so are the sessions
  pub set_xids : (xids : Xids) (sessions : List (ℕ × SessionHeld)) (transactions : List (ℕ × Transaction)) → AreSound xids → xids.commits ≡ engine.xids.commits → ((x : ℕ) → number_of xids x ≡ number_of engine.xids x) → engine.xids.next ≤ xids.next
      → Inside low state.answered xids engine.versions transactions sessions → AreBelow xids.next sessions → HaveOwnXids sessions → ShowsState low (record engine { xids = xids; sessions = sessions }) (record state { sessions = transactions })
  set_xids xids sessions transactions sound commits numbers le inside below apart = record {
    sound = sound;
    counted = ap length commits ∙ shows.counted;
    same_answered = shows.same_answered;
    answered = shows.answered;
    lowest = shows.lowest;
    stands = renumbered_stands low (number_of engine.xids) (number_of xids) state engine.versions numbers shows.stands;
    drawn = by_mapped (IsDrawn engine.xids.next) (IsDrawn xids.next) (λ x d. (d.0, later x d.1)) engine.versions shows.drawn;
    inside = inside;
    below = below;
    apart = apart;
  }
    where
      later : (x : ℕ) → x < engine.xids.next → x < xids.next
      later x lt = omega (arith, lt, le)

  -- the sessions are others
  pub set_sessions : (sessions : List (ℕ × SessionHeld)) (transactions : List (ℕ × Transaction)) → Inside low state.answered engine.xids engine.versions transactions sessions → AreBelow engine.xids.next sessions → HaveOwnXids sessions
      → ShowsState low (record engine { sessions = sessions }) (record state { sessions = transactions })
  set_sessions sessions transactions inside below apart = set_xids engine.xids sessions transactions shows.sound refl (λ x. refl) (omega arith) inside below apart

-- a session shows its transaction where each has the commit number that it had, and those that are open stay so but for one
pub renumbered_session : (low a : ℕ) (xids xids' : Xids) (versions : Versions) (session : SessionHeld) (t : Transaction) → ((x : ℕ) → number_of xids' x ≡ number_of xids x) → IsSnapshotOf xids' session.snapshot t.snapshot → (has session.me xids.live ≡ true → has session.me xids'.live ≡ true)
    → ShowsSession low a xids versions session t → ShowsSession low a xids' versions session t
renumbered_session low a xids xids' versions session t numbers snapshot live theirs = record {
  snapshot = snapshot;
  old = by_mapped (IsSeenIfOld xids session.snapshot) (IsSeenIfOld xids' session.snapshot) (λ x seen is. seen (sym (numbers x) ∙ is)) versions theirs.old;
  from = theirs.from;
  to = theirs.to;
  wrote = λ calm. renumbered_wrote (number_of xids) (number_of xids') versions session.me t.snapshot t.own numbers (theirs.wrote calm);
  live = λ unasked lt. live (theirs.live unasked lt);
  asked = λ k e. numbers session.me ∙ theirs.asked k e;
}

-- a session shows its transaction over other versions, where it wrote the same
pub same_session : (low a : ℕ) (xids : Xids) (old new : Versions) (session : SessionHeld) (t : Transaction) → AreBy (IsSeenIfOld xids session.snapshot) new → (IsCalm session t → Wrote (number_of xids) old session.me t.snapshot t.own → Wrote (number_of xids) new session.me t.snapshot t.own)
    → ShowsSession low a xids old session t → ShowsSession low a xids new session t
same_session low a xids old new session t seen wrote theirs = record {
  snapshot = theirs.snapshot;
  old = seen;
  from = theirs.from;
  to = theirs.to;
  wrote = λ calm. wrote calm (theirs.wrote calm);
  live = theirs.live;
  asked = theirs.asked;
}

-- ---- BEGIN

none_positive : (0 < 0) → ⊥
none_positive lt = omega (arith, lt)

pub begin_step : (low : ℕ) (engine : EngineHeld) (state : State) (s : ℕ) → ShowsState low engine state → ShowsState low (engine_begun s engine) (with_transaction s (begun state.answered) state)
begin_step low engine state s shows =
    let session : SessionHeld = record { me = 0; snapshot = taken engine.xids engine.answered; undoing = false } in
    let mine : ShowsSession low state.answered engine.xids engine.versions session (begun state.answered) = record {
      snapshot = subst (λ n. IsSnapshotOf engine.xids (taken engine.xids engine.answered) n) shows.same_answered (taken_is_of engine.xids engine.answered shows.sound);
      old = by_every (IsSeenIfOld engine.xids (taken engine.xids engine.answered)) (taken_old engine.xids engine.answered) engine.versions;
      from = λ calm. shows.lowest;
      to = omega arith;
      wrote = λ unasked. nothing_wrote (number_of engine.xids) engine.versions engine.xids.next 0 state.answered refl (λ lt bound. none_positive lt) shows.drawn;
      live = λ unasked lt. absurd (none_positive lt);
      asked = λ k e. absurd (false≢true (ap is_some e));
    } in
    set_sessions low engine state shows (put nat_cmp s session engine.sessions) (put nat_cmp s (begun state.answered) state.sessions)
    (inside_put low low state.answered state.answered engine.xids engine.xids engine.versions engine.versions state.sessions engine.sessions s shows.inside (λ r t b apart at at_b theirs. theirs) (begun state.answered) session mine)
    (below_put s session engine.xids.next engine.sessions shows.sound.first shows.below)
    (apart_put s session engine.sessions (λ r b two at lt same. none_positive lt) shows.apart)

-- ---- a number is drawn at the first lock

still_live : (xids : Xids) (me : ℕ) → has me xids.live ≡ true → has me (xids.live ++ xids.next ∷ []) ≡ true
still_live xids me is = has-append me xids.live (xids.next ∷ []) ∙ or_left (has me xids.live) (has me (xids.next ∷ [])) is

-- t is what the grant makes of the transaction
pub draw_step : (low : ℕ) (engine : EngineHeld) (state : State) (s : ℕ) (session : SessionHeld) (t : Transaction) → ShowsState low engine state → ShowsSession low state.answered engine.xids engine.versions session t → t.asked ≡ None → t.own ≡ []
    → ShowsState low (engine_drawn s session engine) (with_transaction s t state)
draw_step low engine state s session t shows theirs unasked unwritten =
    let xids = engine.xids in
    let new : SessionHeld = record session { me = xids.next } in
    let later : (x : ℕ) → x < xids.next → x < xids.next + 1 = λ x lt. omega (arith, lt) in
    let never : (0 < xids.next) → (xids.next < xids.next) → ⊥ = λ positive lt. omega (arith, lt) in
    let none : number_of (drawn xids) xids.next ≡ None = drawn_numbers xids xids.next ∙ next_none xids in
    let mine : ShowsSession low state.answered (drawn xids) engine.versions new t = record {
      snapshot = drawn_snapshots xids session.snapshot t.snapshot theirs.snapshot;
      old = by_mapped (IsSeenIfOld xids session.snapshot) (IsSeenIfOld (drawn xids) session.snapshot) (λ x seen is. seen (sym (drawn_numbers xids x) ∙ is)) engine.versions theirs.old;
      from = theirs.from;
      to = theirs.to;
      wrote = λ unasked. subst (λ own. Wrote (number_of (drawn xids)) engine.versions xids.next t.snapshot own) (sym unwritten) (nothing_wrote (number_of (drawn xids)) engine.versions xids.next xids.next t.snapshot none never shows.drawn);
      live = λ unasked lt. has_here xids.next xids.live;
      asked = λ k e. absurd (false≢true (ap is_some (sym unasked ∙ e)));
    } in
    set_xids low engine state shows (drawn xids) (put nat_cmp s new engine.sessions) (put nat_cmp s t state.sessions) (drawn_sound xids shows.sound) refl (drawn_numbers xids) (omega arith)
    (inside_put low low state.answered state.answered xids (drawn xids) engine.versions engine.versions state.sessions engine.sessions s shows.inside
    (λ r u b apart at at_b other. renumbered_session low state.answered xids (drawn xids) engine.versions b u (drawn_numbers xids) (drawn_snapshots xids b.snapshot u.snapshot other.snapshot) (still_live xids b.me) other) t new mine)
    (below_put s new (xids.next + 1) engine.sessions (omega arith) (λ r b at. later b.me (shows.below r b at)))
    (apart_put s new engine.sessions (λ r b two at lt same. beyond b.me xids.next same (shows.below r b at)) shows.apart)
  where
    next_none : (xids : Xids) → number_of xids xids.next ≡ None
    next_none xids =
        ap (λ b. cond b (Some (place_from 1 xids.next xids.commits)) None)
        (not_before (nat_lt 0 xids.next) (nat_lt xids.next xids.next) (not (has xids.next xids.live) && not (has xids.next xids.aborted)) (le-ltb xids.next xids.next (omega arith)))

    beyond : (y next : ℕ) → y ≡ next → y < next → ⊥
    beyond y next same lt = omega (arith, same, lt)

-- ---- a row is written

module _ (low : ℕ) (engine : EngineHeld) (state : State) (s : ℕ) (session : SessionHeld) (t : Transaction) (shows : ShowsState low engine state) (at_s : find nat_cmp s engine.sessions ≡ Some session)
    (theirs : ShowsSession low state.answered engine.xids engine.versions session t) (unasked : t.asked ≡ None) (positive : 0 < session.me) where
  pub not_mine : (r : ℕ) (b : SessionHeld) → (r == s) ≡ false → find nat_cmp r engine.sessions ≡ Some b → b.me ≡ session.me → ⊥
  not_mine r b apart at_b same = false≢true (sym apart ∙ eq-eqb r s (sym (shows.apart s r session b at_s at_b positive (sym same))))

  is_live : has session.me engine.xids.live ≡ true
  is_live = theirs.live unasked positive

  pub open_none : number_of engine.xids session.me ≡ None
  open_none = live_none engine.xids shows.sound session.me is_live

  -- what is by an open one was not committed before
  pub not_old : (snapshot : SnapshotTaken) → IsSeenIfOld engine.xids snapshot session.me
  not_old snapshot old = absurd (false≢true (ap is_some (sym open_none ∙ old)))

  pub write_step : (new : Versions) (table : List ℕ) (id : ℕ) (key : ℤ) (v : Option Row) → RowsSet engine.versions new id key (write (number_of engine.xids) session.me v (rows_of engine.versions id key))
      → IsTableOf (number_of engine.xids) engine.versions session.me t.snapshot table id → IsFreeKey engine state.sessions s id key
      → ShowsState low (record engine { versions = new }) (with_transaction s (record t { own = t.own ++ row_written table key v ∷ [] }) state)
  write_step new table id key v set on free =
      let number = number_of engine.xids in
      let old = engine.versions in
      let chain = write number session.me v (rows_of old id key) in
      let written : Transaction = record t { own = t.own ++ row_written table key v ∷ [] } in
      let seen : (snapshot : SnapshotTaken) → AreBy (IsSeenIfOld engine.xids snapshot) old → AreBy (IsSeenIfOld engine.xids snapshot) new
      = λ snapshot all. rows_by (IsSeenIfOld engine.xids snapshot) old new id key chain set (write_all (IsBy (IsSeenIfOld engine.xids snapshot)) number session.me v (rows_of old id key) (not_old snapshot) (all.rows id key)) all in
      let mine : ShowsSession low state.answered engine.xids new session written = record {
        snapshot = theirs.snapshot;
        old = seen session.snapshot theirs.old;
        from = theirs.from;
        to = theirs.to;
        wrote = λ unasked. write_wrote low number state old new table id key session.me t.snapshot v t.own set on (theirs.wrote unasked);
        live = theirs.live;
        asked = theirs.asked;
      } in
      set_versions low engine state shows new (put nat_cmp s written state.sessions) (write_stands low number state old new id key shows.stands session.me v open_none set)
      (rows_by (IsDrawn engine.xids.next) old new id key chain set (write_all (IsBy (IsDrawn engine.xids.next)) number session.me v (rows_of old id key) (positive, shows.below s session at_s) (shows.drawn.rows id key)) shows.drawn)
      (inside_same low low state.answered state.answered engine.xids engine.xids old new state.sessions engine.sessions s shows.inside
      (λ r u b apart at_r at_b other. same_session low state.answered engine.xids old new b u (seen b.snapshot other.old)
      (λ calm wrote. let f = free r u b apart at_r at_b calm in
      set_wrote low number state old new id key chain set b.me u.snapshot u.own wrote (write_others number session.me b.me v (rows_of old id key) (not_mine r b apart at_b) ∙ sym f.0) (λ name made is one. absurd (f.1 name made is one))) other)
      written session at_s mine)

  -- ---- COMMIT is asked

  same_head : (x : ℕ) (c : List (ℕ × Option Made)) → is_some (written_by x c) ≡ is_some (written_by x (schemas c))
  same_head x [] = refl
  same_head x (h ∷ rest) = elim (x == h.0) as (λ b. is_some (cond b (Some h.1) None) ≡ is_some (cond b (Some (option_map (λ (m : Made). m.schema) h.1)) None)) [ true ↦ refl | false ↦ refl ]

  pub ask_step : session.undoing ≡ false → AreUntouched state.sessions s t → ShowsState low (record engine { xids = asked session.me engine.xids }) (with_transaction s (record t { asked = Some (length state.asked + 1) }) (record state { asked = state.asked ++ t.own ∷ [] }))
  ask_step calm untouched =
      let xids = engine.xids in
      let number = number_of xids in
      let wrote = theirs.wrote (unasked, calm) in
      let numbers : (y : ℕ) → number_of (asked session.me xids) y ≡ with_number number session.me (length state.asked + 1) y
      = λ y. asked_numbers xids shows.sound session.me is_live y ∙ ap (λ n. with_number number session.me (n + 1) y) shows.counted in
      let within : (n : ℕ) → n ≤ state.answered → n ≤ length xids.commits = λ n le. subst (λ m. n ≤ m) (sym shows.counted) (omega (arith, le, shows.answered)) in
      let seen : (snapshot : SnapshotTaken) → AreBy (IsSeenIfOld xids snapshot) engine.versions → AreBy (IsSeenIfOld (asked session.me xids) snapshot) engine.versions
      = λ snapshot all. by_mapped (IsSeenIfOld xids snapshot) (IsSeenIfOld (asked session.me xids) snapshot) (λ x before is. before (asked_old xids shows.sound session.me is_live x is)) engine.versions all in
      let mine : ShowsSession low state.answered (asked session.me xids) engine.versions session (record t { asked = Some (length state.asked + 1) }) = record {
        snapshot = asked_snapshots xids shows.sound session.me is_live session.snapshot t.snapshot (within t.snapshot theirs.to) theirs.snapshot;
        old = seen session.snapshot theirs.old;
        from = theirs.from;
        to = theirs.to;
        wrote = λ no. absurd (true≢false (ap is_some no.0));
        live = λ no. absurd (true≢false (ap is_some no));
        asked = λ k e. numbers session.me ∙ update_here number session.me (Some (length state.asked + 1)) ∙ e;
      } in
      record {
        sound = asked_sound xids shows.sound session.me is_live;
        counted = length_push xids.commits session.me ∙ ap (λ n. n + 1) shows.counted ∙ sym (length_push state.asked t.own);
        same_answered = shows.same_answered;
        answered = subst (λ n. state.answered ≤ n) (sym (length_push state.asked t.own)) (omega (arith, shows.answered));
        lowest = shows.lowest;
        stands = renumbered_stands low (with_number number session.me (length state.asked + 1)) (number_of (asked session.me xids)) (longer t.own state) engine.versions numbers
            (asked_stands low number state engine.versions session.me t.snapshot t.own shows.stands wrote (omega (arith, theirs.to, shows.answered)));
        drawn = shows.drawn;
        inside = inside_same low low state.answered state.answered xids (asked session.me xids) engine.versions engine.versions state.sessions engine.sessions s shows.inside
            (λ r u b apart at_r at_b other. record {
              snapshot = asked_snapshots xids shows.sound session.me is_live b.snapshot u.snapshot (within u.snapshot other.to) other.snapshot;
              old = seen b.snapshot other.old;
              from = other.from;
              to = other.to;
              wrote = λ quiet. renumbered_wrote (with_number number session.me (length state.asked + 1)) (number_of (asked session.me xids)) engine.versions b.me u.snapshot u.own numbers
                  (asked_wrote low number state engine.versions session.me t.snapshot t.own shows.stands wrote (omega (arith, theirs.to, shows.answered)) b.me u.snapshot u.own (not_mine r b apart at_b) (other.wrote quiet)
                  (λ name key is. untouched r u apart at_r name key (ap is_some (sym (wrote.tables name)) ∙ sym (same_head session.me (names_at engine.versions name)) ∙ is)));
              live = λ quiet lt. has-minus-other session.me b.me xids.live (not_mine r b apart at_b) ∙ other.live quiet lt;
              asked = λ k e. numbers b.me ∙ update_apart number session.me (Some (length state.asked + 1)) b.me (not_mine r b apart at_b) ∙ other.asked k e;
            }) (record t { asked = Some (length state.asked + 1) }) session at_s mine;
        below = shows.below;
        apart = shows.apart;
      }

  -- ---- ROLLBACK

  pub rollback_step : ShowsState low (record engine { xids = aborted session.me engine.xids; sessions = without nat_cmp s engine.sessions }) (without_transaction s state)
  rollback_step =
      let xids = engine.xids in
      let numbers = aborted_numbers xids shows.sound session.me is_live in
      set_xids low engine state shows (aborted session.me xids) (without nat_cmp s engine.sessions) (without nat_cmp s state.sessions) (aborted_sound xids shows.sound session.me is_live) refl numbers (omega arith)
      (inside_without low low state.answered state.answered xids (aborted session.me xids) engine.versions engine.versions state.sessions engine.sessions s shows.inside
      (λ r u b apart at_r at_b other. renumbered_session low state.answered xids (aborted session.me xids) engine.versions b u numbers (aborted_snapshots xids shows.sound session.me is_live b.snapshot u.snapshot other.snapshot)
      (λ is. has-minus-other session.me b.me xids.live (not_mine r b apart at_b) ∙ is) other))
      (below_without s xids.next engine.sessions shows.below) (apart_without s engine.sessions shows.apart)

-- ---- the end of a transaction that is answered, or wrote nothing

pub answer_step : (low : ℕ) (engine : EngineHeld) (state : State) (s : ℕ) → ShowsState low engine state → state.answered < length state.asked
    → ShowsState low (record engine { sessions = without nat_cmp s engine.sessions; answered = engine.answered + 1 }) (without_transaction s (record state { answered = state.answered + 1 }))
answer_step low engine state s shows more = record {
  sound = shows.sound;
  counted = shows.counted;
  same_answered = ap (λ n. n + 1) shows.same_answered;
  answered = omega (arith, more);
  lowest = omega (arith, shows.lowest);
  stands = shows.stands;
  drawn = shows.drawn;
  inside = inside_without low low state.answered (state.answered + 1) engine.xids engine.xids engine.versions engine.versions state.sessions engine.sessions s shows.inside
      (λ r u b apart at_r at_b other. record { snapshot = other.snapshot; old = other.old; from = other.from; to = later u.snapshot other.to; wrote = other.wrote; live = other.live; asked = other.asked });
  below = below_without s engine.xids.next engine.sessions shows.below;
  apart = apart_without s engine.sessions shows.apart;
}
  where
    later : (n : ℕ) → n ≤ state.answered → n ≤ state.answered + 1
    later n le = omega (arith, le)

pub end_step : (low : ℕ) (engine : EngineHeld) (state : State) (s : ℕ) → ShowsState low engine state → ShowsState low (record engine { sessions = without nat_cmp s engine.sessions }) (without_transaction s state)
end_step low engine state s shows = set_sessions low engine state shows (without nat_cmp s engine.sessions) (without nat_cmp s state.sessions)
    (inside_without low low state.answered state.answered engine.xids engine.xids engine.versions engine.versions state.sessions engine.sessions s shows.inside (λ r u b apart at_r at_b other. other))
    (below_without s engine.xids.next engine.sessions shows.below) (apart_without s engine.sessions shows.apart)

-- ---- a rollback of several steps begins: nothing more is said of what the session sees

pub undo_step : (low : ℕ) (engine : EngineHeld) (state : State) (s : ℕ) (session : SessionHeld) → ShowsState low engine state → find nat_cmp s engine.sessions ≡ Some session
    → ShowsState low (record engine { sessions = put nat_cmp s (record session { undoing = true }) engine.sessions }) state
undo_step low engine state s session shows at_s = set_sessions low engine state shows (put nat_cmp s new engine.sessions) state.sessions
    (λ r t at. let old = shows.inside r t at in known (r == s)
    (λ one. let same : old.0 ≡ session = some_is old.0 session (sym old.1 ∙ ap (λ q. find nat_cmp q engine.sessions) (eqb-true r s one) ∙ at_s) in
    let theirs = subst (λ (b : SessionHeld). ShowsSession low state.answered engine.xids engine.versions b t) same old.2 in (
      new,
      ap (λ q. find nat_cmp q (put nat_cmp s new engine.sessions)) (eqb-true r s one) ∙ find-put-same s new engine.sessions,
      record {
        snapshot = theirs.snapshot;
        old = theirs.old;
        from = λ calm. absurd (true≢false calm);
        to = theirs.to;
        wrote = λ calm. absurd (true≢false calm.1);
        live = theirs.live;
        asked = theirs.asked;
      },
    ))
    (λ two. (old.0, find-put-other r s new engine.sessions two ∙ old.1, old.2)))
    (below_put s new engine.xids.next engine.sessions (shows.below s session at_s) shows.below)
    (apart_put s new engine.sessions (λ r b two at positive same. false≢true (sym two ∙ eq-eqb r s (sym (shows.apart s r session b at_s at positive (sym same))))) shows.apart)
  where
    new : SessionHeld
    new = record session { undoing = true }

-- ---- a number is drawn that no session has, and marked as aborted

pub spent_step : (low : ℕ) (engine : EngineHeld) (state : State) → ShowsState low engine state → ShowsState low (record engine { xids = aborted engine.xids.next (drawn engine.xids) }) state
spent_step low engine state shows =
    let xids = engine.xids in
    let new = aborted xids.next (drawn xids) in
    let sound = drawn_sound xids shows.sound in
    let here = has_here xids.next xids.live in
    let numbers : (y : ℕ) → number_of new y ≡ number_of xids y = λ y. aborted_numbers (drawn xids) sound xids.next here y ∙ drawn_numbers xids y in
    let later : (x : ℕ) → x < xids.next → x < xids.next + 1 = λ x lt. omega (arith, lt) in
    let apart : (x : ℕ) → x < xids.next → x ≡ xids.next → ⊥ = λ x lt same. omega (arith, lt, same) in
    set_xids low engine state shows new engine.sessions state.sessions (aborted_sound (drawn xids) sound xids.next here) refl numbers (omega arith)
    (λ s t at. let old = shows.inside s t at in (
      old.0,
      old.1,
      renumbered_session low state.answered xids new engine.versions old.0 t numbers (aborted_snapshots (drawn xids) sound xids.next here old.0.snapshot t.snapshot (drawn_snapshots xids old.0.snapshot t.snapshot old.2.snapshot))
          (λ is. has-minus-other xids.next old.0.me (xids.live ++ xids.next ∷ []) (apart old.0.me (shows.below s old.0 old.1)) ∙ still_live xids old.0.me is) old.2,
    ))
    (λ r b at. later b.me (shows.below r b at)) shows.apart
