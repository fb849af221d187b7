-- Whole turns of a session: what is kept before one is kept behind it.
use Rattle.std.proofs.Common.{◌≡◌, ◌⊎◌, ◌≢◌, ℕ, ◌+◌, ◌<◌, ◌≤◌, ◌==◌, true, false, List, [], ◌∷◌, ◌++◌, length, inl, inr, ⊎_elim, Option, Some, None, refl, sym, ◌∙◌, ap, subst, arith}
use Rattle.std.specs.Prelude.{is_some}
use Rattle.std.specs.Option.{option_map}
use Rattle.std.specs.Ordering.{nat_cmp}
use Rattle.std.specs.FinMap.Entries.{find, put}
use Rattle.std.proofs.lemmas.Bool.{false≢true, eqb-true, eq-eqb}
use Rattle.ctr_types.specs.declared.statement.Line.{Line}
use Rattle.ctr_types.specs.declared.statement.Statement.{Statement}
use Rattle.ctr_types.specs.declared.tape.Act.{Act}
use Rattle.ctr_types.specs.declared.tape.Act.TheVariants as act
use Rattle.ctr_types.specs.declared.tape.Entry.{Entry}
use Rattle.ctr_types.specs.declared.tape.Refusal.{Refusal}
use Rattle.ctr_types.specs.declared.tape.Reply.{Reply}
use Rattle.ctr_types.specs.declared.tape.Reply.TheVariants as reply
use Rattle.ctr_types.specs.declared.value.Rows.{Rows}
use Rattle.ctr_model.specs.declared.database.Change.{Change}
use Rattle.ctr_model.specs.declared.state.State.{State}
use Rattle.ctr_model.specs.declared.state.Transaction.{Transaction}
use Rattle.ctr_model.specs.declared.tape.Point.{Point}
use Rattle.ctr_model.specs.Database.{Database}
use Rattle.ctr_model.specs.Maps.{without}
use Rattle.ctr_model.specs.Reply.{with_granted, with_read, changes_of, next_inside, next_from, next_state}
use Rattle.ctr_model.specs.State.{view, begun, transaction_of, with_transaction}
use Rattle.ctr_model.specs.Tape.{final, passed, statement_of, Comes, at_start}
use Rattle.ctr_model.proofs.Sessions.{find-put-other, find-put-same, find-without-other, find-without-same}
use Rattle.ctr_legal.specs.Kept.{IsKept}
use Rattle.ctr_versions.proofs.Keys.{known, some_is}
use Rattle.ctr_versions.specs.Engine.{SessionHeld}
use Rattle.ctr_versions.specs.Laws.{IsGranted, with_own}
use Rattle.ctr_paged.specs.sessions_Sessions.{IsDrawnFor}
use Rattle.ctr_meta.specs.Tables.{is_in, without_xid}
use Rattle.ctr_paged.specs.area_Sound.{IsAmong, xids_in}
use Rattle.ctr_paged.specs.record_laws_Bounds.{IsInBounds}
use Rattle.ctr_paged.proofs.record_laws_Heads.{listed_drawn}
use Rattle.ctr_paged.proofs.record_laws_Leaving.{once_less}
use Rattle.ctr_paged.proofs.record_laws_Xids.{in_among, once_parts}
use Rattle.ctr_paged.specs.actions_Sites.{Site}
use Rattle.ctr_paged.specs.actions_Actions.{Action, Begins, Commits, Aborts, Owes, site_after}
use Rattle.ctr_paged.specs.actions_Facts.{Fact, HoldsFact}
use Rattle.ctr_paged.specs.Paged.{Run}
use Rattle.ctr_paged.specs.Shown.{Scene}
use Rattle.ctr_paged.specs.Moving.{held_as, with_its, without_its, begun_now, HoldsAll, DrawsNumber, MovesTo}
use Rattle.ctr_paged.proofs.Shown.{shown_begun, shown_granted, shown_ended, shown_undoing}
use Rattle.ctr_kept.specs.Carried.{IsUnderLock, Covers}
use Rattle.ctr_kept.specs.Turns.{Carries}
use Rattle.ctr_kept.specs.Undo.{IsSessions}
use Rattle.ctr_kept.specs.Walk.{Mind, scene_of, with_facts, KeepsScene, IsAtRollback, AreAtRollback, Keeps}
use Rattle.ctr_kept.proofs.Carried.{AnotherLeaves}
use Rattle.ctr_kept.proofs.Opening.{opened_by}
use Rattle.ctr_kept.proofs.Rolling.{rolled_back, rolls_or_answered, rolls_moved, rolls_on, rolls_same}
use Rattle.ctr_kept.proofs.Turning.{MovesOne, silent_scene, action_scene}
use Rattle.ctr_kept.proofs.Walking.{keeps_reached, keeps_on, keeps_entry}

module _ (lines : List Line) (moment : ℕ) (base : Database) (stuck : List (List ℕ)) (size now : ℕ) (site : Site) (w : Mind)
    (keeps : Keeps lines (at_start moment base stuck) size now site w)
    (s : ℕ) (b : SessionHeld) (me : Transaction) (at : find nat_cmp s w.run.sessions ≡ Some b) (is_me : transaction_of (final lines (at_start moment base stuck) w.tape).state s ≡ Some me) where
  abbrev point : Point
  point = final lines (at_start moment base stuck) w.tape

  abbrev scene : Scene
  scene = scene_of lines (at_start moment base stuck) w

  legal : IsKept point.state
  legal = (keeps_reached lines moment base stuck size now site w keeps).kept

  alone : 0 < b.me → (r : ℕ) (c : SessionHeld) → (r == s) ≡ false → find nat_cmp r w.run.sessions ≡ Some c → c.me ≢ b.me
  alone some r c two at_c same = false≢true (sym two ∙ eq-eqb r s (sym (keeps.scene.shown.paged.shows.apart s r b c at at_c some (sym same))))

  no_orphan : IsAmong b.me w.undo.orphans → ⊥
  no_orphan in_ = keeps.scene.undo.0.nobodys b.me in_ s b at refl

  -- it goes on, held so, in this transaction of the same snapshot; of the others nothing has changed
  goes_moves : (c : SessionHeld) (u : Transaction) (mine : List Fact) (run : Run) (state : State) (next : Site) → ((r : ℕ) → (r == s) ≡ false → find nat_cmp r run.sessions ≡ find nat_cmp r w.run.sessions) → find nat_cmp s run.sessions ≡ Some c
      → ((r : ℕ) → (r == s) ≡ false → transaction_of state r ≡ transaction_of point.state r) → transaction_of state s ≡ Some u
      → u.snapshot ≡ me.snapshot → IsDrawnFor c u → Carries c.me u mine next → (IsAmong c.me w.undo.orphans → ⊥) → (is_in b.me next.tables.opens ≡ true → IsSessions run.sessions b.me)
      → MovesOne s w w.since mine scene (record { run = run; state = state }) next
  goes_moves c u mine run state next sessions here transactions there snapshot drawn carries not_orphan seat = record {
    sessions = sessions;
    transactions = transactions;
    snapshots = λ r two. refl;
    since_is = keeps.scene.begun.since_is s ∙ ap (option_map (λ (t : Transaction). t.snapshot)) is_me ∙ ap Some (sym snapshot) ∙ ap (option_map (λ (t : Transaction). t.snapshot)) (sym there);
    drawn = λ t d is_t at_d. subst (λ (a : SessionHeld). IsDrawnFor a t) (c_is d at_d) (subst (IsDrawnFor c) (u_is t is_t) drawn);
    held = λ d fact at_d in_. subst (λ (a : SessionHeld). HoldsFact a.me fact next) (c_is d at_d) (carries.held fact in_).0;
    under = λ t fact is_t in_. subst (λ v. IsUnderLock v fact next) (u_is t is_t) (carries.held fact in_).1;
    tables = carries.tables;
    not_orphan = λ d at_d in_. not_orphan (subst (λ (a : SessionHeld). IsAmong a.me w.undo.orphans) (sym (c_is d at_d)) in_);
    seats = λ d at_d open_. let is = some_is b d (sym at ∙ at_d) in
        subst (λ (a : SessionHeld). IsSessions run.sessions a.me) is (seat (subst (λ (a : SessionHeld). is_in a.me next.tables.opens ≡ true) (sym is) open_));
  }
    where
      c_is : (d : SessionHeld) → find nat_cmp s run.sessions ≡ Some d → c ≡ d
      c_is d at_d = some_is c d (sym here ∙ at_d)

      u_is : (t : Transaction) → transaction_of state s ≡ Some t → u ≡ t
      u_is t is_t = some_is u t (sym there ∙ is_t)

  -- it goes on as it is held, in this transaction
  same_moves : (u : Transaction) (mine : List Fact) (run : Run) (state : State) (next : Site) → run.sessions ≡ w.run.sessions → ((r : ℕ) → (r == s) ≡ false → transaction_of state r ≡ transaction_of point.state r) → transaction_of state s ≡ Some u
      → u.snapshot ≡ me.snapshot → IsDrawnFor b u → Carries b.me u mine next → MovesOne s w w.since mine scene (record { run = run; state = state }) next
  same_moves u mine run state next runs others there snapshot drawn carries = goes_moves b u mine run state next (λ r two. ap (find nat_cmp r) runs) (ap (find nat_cmp s) runs ∙ at) others there snapshot drawn carries no_orphan
      (λ open_. record { s = s; session = b; at = ap (find nat_cmp s) runs ∙ at; me = refl })

  -- its transaction is another one, the others' are as they were
  its_moves : (u : Transaction) (mine : List Fact) (next : Site) → u.snapshot ≡ me.snapshot → IsDrawnFor b u → Carries b.me u mine next → MovesOne s w w.since mine scene (with_its s u scene) next
  its_moves u mine next snapshot drawn carries = same_moves u mine w.run (with_transaction s u point.state) next refl (λ r two. find-put-other r s u point.state.sessions two) (find-put-same s u point.state.sessions) snapshot drawn carries

  -- the session's transaction ends, and its number isn't open any more
  gone_moves : (next : Site) → (is_in b.me next.tables.opens ≡ true → ⊥) → MovesOne s w (without nat_cmp s w.since) [] scene (without_its s scene) next
  gone_moves next gone = record {
    sessions = λ r two. find-without-other r s w.run.sessions two;
    transactions = λ r two. find-without-other r s point.state.sessions two;
    snapshots = λ r two. find-without-other r s w.since two;
    since_is = find-without-same s w.since ∙ ap (option_map (λ (t : Transaction). t.snapshot)) (sym (find-without-same s point.state.sessions));
    drawn = λ t c is_t at_c. absurd (false≢true (ap is_some (sym (find-without-same s w.run.sessions) ∙ at_c)));
    held = λ c fact at_c in_. absurd in_;
    under = λ t fact is_t in_. absurd in_;
    tables = λ fact e in_ is. absurd in_;
    not_orphan = λ c at_c in_. absurd (false≢true (ap is_some (sym (find-without-same s w.run.sessions) ∙ at_c)));
    seats = λ d at_d open_. absurd (gone (subst (λ (a : SessionHeld). is_in a.me next.tables.opens ≡ true) (sym (some_is b d (sym at ∙ at_d))) open_));
  }

  -- the scene once it asks
  abbrev asking_scene : Scene
  asking_scene = record {
    run = record w.run { commits = w.run.commits ++ b.me ∷ [] };
    state = with_transaction s (record me { asked = Some (length point.state.asked + 1) }) (record point.state { asked = point.state.asked ++ me.own ∷ [] });
  }

  abbrev carrying : List Fact → Mind
  carrying mine = record w { facts = with_facts s mine w.facts }

  -- ---- without an entry

  -- an action for room, or that keeps a version, or that undoes an own item
  pub unseen_turn : AnotherLeaves → (later : ℕ) (a : Action) (mine : List Fact) → now ≤ later → 0 < b.me → Owes b.me a site → Covers me a site → IsInBounds (site_after b.me a site).area → MovesTo keeps.scene.low b.me a site scene scene
      → Carries b.me me mine (site_after b.me a site) → Keeps lines (at_start moment base stuck) size later (site_after b.me a site) (carrying mine)
  unseen_turn leaves later a mine le some owed covers bounds moves carries =
      keeps_on lines moment base stuck size now site w keeps later (site_after b.me a site) (carrying mine) le refl
      (action_scene size site w scene keeps.scene s w.since mine (carrying mine) refl refl refl scene leaves legal me b.me a is_me owed covers (alone some) no_orphan bounds moves
      (same_moves me mine w.run point.state (site_after b.me a site) refl (λ r two. refl) is_me refl (keeps.scene.begun.drawn s me b is_me at) carries))
      keeps.rolls

  -- a rollback begins: from now on nothing is said of what the session sees
  pub undoing_turn : (later : ℕ) (mine : List Fact) → now ≤ later → IsAtRollback lines point s → Carries b.me me mine site
      → Keeps lines (at_start moment base stuck) size later site (record (carrying mine) { run = held_as s (record b { undoing = true }) w.run })
  undoing_turn later mine le rolling carries =
      let c : SessionHeld = record b { undoing = true } in
      let v : Mind = record (carrying mine) { run = held_as s c w.run } in
      keeps_on lines moment base stuck size now site w keeps later site v le refl
      (silent_scene size site w scene keeps.scene s w.since mine v refl refl refl (record { run = held_as s c w.run; state = point.state })
      (goes_moves c me mine (held_as s c w.run) point.state site (λ r two. find-put-other r s c w.run.sessions two) (find-put-same s c w.run.sessions) (λ r two. refl) is_me refl
      (let was = keeps.scene.begun.drawn s me b is_me at in record { writer = was.writer; reader = was.reader }) (record { held = carries.held; tables = carries.tables }) no_orphan
      (λ open_. record { s = s; session = c; at = find-put-same s c w.run.sessions; me = refl }))
      (shown_undoing keeps.scene.low site scene keeps.scene.shown s b me at is_me))
      (λ r d at_d undoing. known (r == s)
      (λ one. subst (IsAtRollback lines point) (sym (eqb-true r s one)) rolling)
      (λ two. keeps.rolls r d (sym (find-put-other r s c w.run.sessions two) ∙ at_d) undoing))

  -- ---- with an entry

  module _ (n later : ℕ) (statement : Statement) (is_statement : statement_of lines s n ≡ Some statement) where
    abbrev entry : Act → Reply → Entry
    entry a r = record { session = s; statement = n; act = a; reply = r; moment = later }

    abbrev told : Act → Reply → Mind → Mind
    told a r v = record v { tape = w.tape ++ entry a r ∷ [] }

    entry_keeps : (a : Act) (r : Reply) (next : Site) (v : Mind) → Comes lines point (entry a r) → v.tape ≡ w.tape ++ entry a r ∷ [] → KeepsScene size next v (record { run = v.run; state = next_inside point.state s me a (Some statement) r })
        → AreAtRollback lines (passed lines point (entry a r)) v.run → Keeps lines (at_start moment base stuck) size later next v
    entry_keeps a r next v comes longer kept rolls = keeps_entry lines moment base stuck size now site w keeps (entry a r) next v comes longer
        (subst (λ o. KeepsScene size next v (record { run = v.run; state = next_state point.state s a o r })) (sym is_statement)
        (subst (λ (o : Option Transaction). KeepsScene size next v (record { run = v.run; state = next_from point.state s o a (Some statement) r })) (sym is_me) kept)) rolls

    -- it is held as it was, and this was no ROLLBACK
    rolls_held : (a : Act) (r : Reply) → Comes lines point (entry a r) → (act.Rollback ≡ a → ⊥) → AreAtRollback lines (passed lines point (entry a r)) w.run
    rolls_held a r comes other = rolls_same lines point (entry a r) comes w.run keeps.rolls other

    -- it is gone
    rolls_gone : (a : Act) (r : Reply) → Comes lines point (entry a r) → AreAtRollback lines (passed lines point (entry a r)) (record w.run { sessions = without nat_cmp s w.run.sessions })
    rolls_gone a r comes = rolls_moved lines point (entry a r) comes w.run (record w.run { sessions = without nat_cmp s w.run.sessions }) keeps.rolls
        (λ q two. find-without-other q s w.run.sessions two) (λ d at_d undoing. absurd (false≢true (ap is_some (sym (find-without-same s w.run.sessions) ∙ at_d))))

    -- a lock, a use or a hold is granted to a session that has its number, or only reads
    pub granted_turn : (mine : List Fact) → Comes lines point (entry act.Lock reply.Granted) → IsGranted me (with_granted act.Lock (Some statement) me) → HoldsAll me (with_granted act.Lock (Some statement) me) → IsDrawnFor b (with_granted act.Lock (Some statement) me)
        → Carries b.me (with_granted act.Lock (Some statement) me) mine site → Keeps lines (at_start moment base stuck) size later site (told act.Lock reply.Granted (carrying mine))
    granted_turn mine comes granted holds drawn carries =
        let u = with_granted act.Lock (Some statement) me in
        let v = told act.Lock reply.Granted (carrying mine) in
        entry_keeps act.Lock reply.Granted site v comes refl
        (silent_scene size site w scene keeps.scene s w.since mine v refl refl refl (with_its s u scene) (its_moves u mine site granted.snapshot drawn carries)
        (shown_granted keeps.scene.low site scene keeps.scene.shown s me u is_me granted holds))
        (rolls_held act.Lock reply.Granted comes (λ is. cc is))

    -- rows are read
    pub read_turn : (rows : Rows) (mine : List Fact) → Comes lines point (entry act.Read (reply.Rows rows)) → IsGranted me (with_read (Some statement) me) → HoldsAll me (with_read (Some statement) me) → IsDrawnFor b (with_read (Some statement) me)
        → Carries b.me (with_read (Some statement) me) mine site → Keeps lines (at_start moment base stuck) size later site (told act.Read (reply.Rows rows) (carrying mine))
    read_turn rows mine comes granted holds drawn carries =
        let u = with_read (Some statement) me in
        let v = told act.Read (reply.Rows rows) (carrying mine) in
        entry_keeps act.Read (reply.Rows rows) site v comes refl
        (silent_scene size site w scene keeps.scene s w.since mine v refl refl refl (with_its s u scene) (its_moves u mine site granted.snapshot drawn carries)
        (shown_granted keeps.scene.low site scene keeps.scene.shown s me u is_me granted holds))
        (rolls_held act.Read (reply.Rows rows) comes (λ is. cc is))

    -- an act is refused
    pub refused_turn : (a : Act) (why : Refusal) (mine : List Fact) → Comes lines point (entry a (reply.Refused why)) → Carries b.me me mine site → Keeps lines (at_start moment base stuck) size later site (told a (reply.Refused why) (carrying mine))
    refused_turn a why mine comes carries =
        let v = told a (reply.Refused why) (carrying mine) in
        entry_keeps a (reply.Refused why) site v comes refl
        (silent_scene size site w scene keeps.scene s w.since mine v refl refl refl scene (same_moves me mine w.run point.state site refl (λ r two. refl) is_me refl (keeps.scene.begun.drawn s me b is_me at) carries) keeps.scene.shown)
        (rolls_moved lines point (entry a (reply.Refused why)) comes w.run w.run keeps.rolls (λ r two. refl)
        (λ d at_d undoing. ⊎_elim (λ still. still) (λ answered. absurd (cc (rolled_back point.state s me (reply.Refused why) is_me answered.1))) (rolls_or_answered lines point (entry a (reply.Refused why)) comes (keeps.rolls s d at_d undoing))))

    -- the first Lock: the session's number is drawn with it
    pub drawn_turn : AnotherLeaves → (mine : List Fact) → Comes lines point (entry act.Lock reply.Granted) → Owes site.tables.next Begins site → IsInBounds (site_after site.tables.next Begins site).area
        → MovesTo keeps.scene.low site.tables.next Begins site scene (record { run = held_as s (record b { me = site.tables.next }) w.run; state = with_transaction s (with_granted act.Lock (Some statement) me) point.state })
        → (with_granted act.Lock (Some statement) me).snapshot ≡ me.snapshot → IsDrawnFor (record b { me = site.tables.next }) (with_granted act.Lock (Some statement) me)
        → Carries site.tables.next (with_granted act.Lock (Some statement) me) mine (site_after site.tables.next Begins site)
        → Keeps lines (at_start moment base stuck) size later (site_after site.tables.next Begins site) (told act.Lock reply.Granted (record (carrying mine) { run = held_as s (record b { me = site.tables.next }) w.run }))
    drawn_turn leaves mine comes owed bounds moves snapshot drawn carries =
        let u = with_granted act.Lock (Some statement) me in
        let c : SessionHeld = record b { me = site.tables.next } in
        let v = told act.Lock reply.Granted (record (carrying mine) { run = held_as s c w.run }) in
        entry_keeps act.Lock reply.Granted (site_after site.tables.next Begins site) v comes refl
        (action_scene size site w scene keeps.scene s w.since mine v refl refl refl (record { run = held_as s c w.run; state = with_transaction s u point.state }) leaves legal me site.tables.next Begins is_me owed tt
        (λ r d two at_d same. beyond d.me (keeps.scene.shown.paged.shows.below r d at_d) same) new_one bounds moves
        (goes_moves c u mine (held_as s c w.run) (with_transaction s u point.state) (site_after site.tables.next Begins site) (λ r two. find-put-other r s c w.run.sessions two) (find-put-same s c w.run.sessions)
        (λ r two. find-put-other r s u point.state.sessions two) (find-put-same s u point.state.sessions) snapshot drawn carries new_one
        (λ open_. absurd (none_open (opened_by b.me site.tables.next Begins site open_)))))
        (rolls_on lines point (entry act.Lock reply.Granted) comes w.run (held_as s c w.run) keeps.rolls (λ r two. find-put-other r s c w.run.sessions two)
        (λ d at_d undoing. (b, at, ap (λ (f : SessionHeld). f.undoing) (some_is c d (sym (find-put-same s c w.run.sessions) ∙ at_d)) ∙ undoing)) (λ is. cc is))
      where
        beyond : (d : ℕ) → d < site.tables.next → d ≡ site.tables.next → ⊥
        beyond d lt is = omega (arith, lt, is)

        -- who draws a number had none, which is never open
        draws : DrawsNumber site.tables.next scene (record { run = held_as s (record b { me = site.tables.next }) w.run; state = with_transaction s (with_granted act.Lock (Some statement) me) point.state })
        draws = moves

        no_less : site.tables.next ≡ 0 → ⊥
        no_less is = let some = keeps.scene.shown.paged.some in omega (arith, some, is)

        had_none : b.me ≡ 0
        had_none = known (draws.by.s == s)
            (λ one. ap (λ (d : SessionHeld). d.me) (some_is b draws.by.session (sym at ∙ ap (λ q. find nat_cmp q w.run.sessions) (sym (eqb-true draws.by.s s one)) ∙ draws.by.at)) ∙ draws.by.me)
            (λ two. absurd (no_less (ap (λ (d : SessionHeld). d.me) (some_is (record draws.by.session { me = site.tables.next }) draws.by.session
            (sym (find-put-same draws.by.s (record draws.by.session { me = site.tables.next }) w.run.sessions) ∙ sym (ap (λ (z : Scene). find nat_cmp draws.by.s z.run.sessions) draws.leads)
            ∙ find-put-other draws.by.s s (record b { me = site.tables.next }) w.run.sessions two ∙ draws.by.at)) ∙ draws.by.me)))

        is_none : b.me ≡ 0 → 0 < b.me → ⊥
        is_none is lt = omega (arith, is, lt)

        none_open : is_in b.me site.tables.opens ≡ true ⊎ ((b.me ≡ site.tables.next) × (Begins ≡ Begins)) → ⊥
        none_open (inl before) = is_none had_none (listed_drawn site.tables.next site.area site.tables keeps.scene.shown.paged.sound.below b.me (inl before)).0
        none_open (inr new) = no_less (sym new.0 ∙ had_none)

        new_one : IsAmong site.tables.next w.undo.orphans → ⊥
        new_one in_ = beyond site.tables.next (listed_drawn site.tables.next site.area site.tables keeps.scene.shown.paged.sound.below site.tables.next (inl (keeps.scene.undo.0.are_open site.tables.next in_))).1 refl

    -- a row is written, or a table made or dropped: one change
    pub written_turn : AnotherLeaves → (a : Action) (change : Change) (mine : List Fact) → Comes lines point (entry act.Write reply.Done) → 0 < b.me → changes_of (view point.state me) statement ≡ change ∷ [] → Owes b.me a site → Covers me a site
        → IsInBounds (site_after b.me a site).area → MovesTo keeps.scene.low b.me a site scene (with_its s (with_own change me) scene) → Carries b.me (with_own change me) mine (site_after b.me a site)
        → Keeps lines (at_start moment base stuck) size later (site_after b.me a site) (told act.Write reply.Done (carrying mine))
    written_turn leaves a change mine comes some is owed covers bounds moves carries =
        let u = with_own change me in
        let v = told act.Write reply.Done (carrying mine) in
        entry_keeps act.Write reply.Done (site_after b.me a site) v comes refl
        (subst (λ l. KeepsScene size (site_after b.me a site) v (record { run = w.run; state = with_transaction s (record me { own = me.own ++ l }) point.state })) (sym is)
        (action_scene size site w scene keeps.scene s w.since mine v refl refl refl (with_its s u scene) leaves legal me b.me a is_me owed covers (alone some) no_orphan bounds moves
        (its_moves u mine (site_after b.me a site) refl (let was = keeps.scene.begun.drawn s me b is_me at in record { writer = was.writer; reader = was.reader }) carries)))
        (rolls_held act.Write reply.Done comes (λ is. cc is))

    -- COMMIT asks: from here on the session carries nothing
    pub asked_turn : AnotherLeaves → Comes lines point (entry act.Ask (reply.Asked (length point.state.asked + 1))) → 0 < b.me → Owes b.me Commits site → IsInBounds (site_after b.me Commits site).area
        → MovesTo keeps.scene.low b.me Commits site scene (asking_scene) → Keeps lines (at_start moment base stuck) size later (site_after b.me Commits site) (told act.Ask (reply.Asked (length point.state.asked + 1)) (record (carrying []) { run = asking_scene.run }))
    asked_turn leaves comes some owed bounds moves =
        let u : Transaction = record me { asked = Some (length point.state.asked + 1) } in
        let v = told act.Ask (reply.Asked (length point.state.asked + 1)) (record (carrying []) { run = asking_scene.run }) in
        entry_keeps act.Ask (reply.Asked (length point.state.asked + 1)) (site_after b.me Commits site) v comes refl
        (action_scene size site w scene keeps.scene s w.since [] v refl refl refl asking_scene leaves legal me b.me Commits is_me owed tt (alone some) no_orphan bounds moves
        (same_moves u [] asking_scene.run asking_scene.state (site_after b.me Commits site) refl (λ r two. find-put-other r s u point.state.sessions two) (find-put-same s u point.state.sessions) refl
        (let was = keeps.scene.begun.drawn s me b is_me at in record { writer = was.writer; reader = was.reader }) (record { held = λ fact in_. absurd in_; tables = λ fact e in_ is. absurd in_ })))
        (rolls_held act.Ask (reply.Asked (length point.state.asked + 1)) comes (λ is. cc is))

    -- the session's transaction ends: of a reader at COMMIT or ROLLBACK
    abbrev gone : Mind
    gone = record (carrying []) { run = record w.run { sessions = without nat_cmp s w.run.sessions }; since = without nat_cmp s w.since }

    reader_ends : b.me ≡ 0 → (v : Mind) → v.since ≡ without nat_cmp s w.since → v.facts ≡ with_facts s [] w.facts → v.undo ≡ w.undo → KeepsScene size site v (without_its s scene)
    reader_ends zero_ v since facts undo = silent_scene size site w scene keeps.scene s (without nat_cmp s w.since) [] v since facts undo (without_its s scene) (gone_moves site (λ open_. none zero_ (listed_drawn site.tables.next site.area site.tables keeps.scene.shown.paged.sound.below b.me (inl open_)).0))
        (shown_ended keeps.scene.low site scene keeps.scene.shown s (λ a at_a. ap (λ (d : SessionHeld). d.me) (some_is a b (sym at_a ∙ at)) ∙ zero_))
      where
        none : b.me ≡ 0 → 0 < b.me → ⊥
        none is lt = omega (arith, is, lt)

    pub read_only_turn : Comes lines point (entry act.Ask reply.ReadOnly) → b.me ≡ 0 → Keeps lines (at_start moment base stuck) size later site (told act.Ask reply.ReadOnly gone)
    read_only_turn comes zero_ = entry_keeps act.Ask reply.ReadOnly site (told act.Ask reply.ReadOnly gone) comes refl (reader_ends zero_ (told act.Ask reply.ReadOnly gone) refl refl refl) (rolls_gone act.Ask reply.ReadOnly comes)

    pub reader_back_turn : Comes lines point (entry act.Rollback reply.RolledBack) → b.me ≡ 0 → Keeps lines (at_start moment base stuck) size later site (told act.Rollback reply.RolledBack gone)
    reader_back_turn comes zero_ = entry_keeps act.Rollback reply.RolledBack site (told act.Rollback reply.RolledBack gone) comes refl (reader_ends zero_ (told act.Rollback reply.RolledBack gone) refl refl refl) (rolls_gone act.Rollback reply.RolledBack comes)

    -- a rollback ends, by one mark
    pub rolled_back_turn : AnotherLeaves → Comes lines point (entry act.Rollback reply.RolledBack) → 0 < b.me → Owes b.me Aborts site → IsInBounds (site_after b.me Aborts site).area → MovesTo keeps.scene.low b.me Aborts site scene (without_its s scene)
        → Keeps lines (at_start moment base stuck) size later (site_after b.me Aborts site) (told act.Rollback reply.RolledBack gone)
    rolled_back_turn leaves comes some owed bounds moves =
        entry_keeps act.Rollback reply.RolledBack (site_after b.me Aborts site) (told act.Rollback reply.RolledBack gone) comes refl
        (action_scene size site w scene keeps.scene s (without nat_cmp s w.since) [] (told act.Rollback reply.RolledBack gone) refl refl refl (without_its s scene) leaves legal me b.me Aborts is_me owed tt (alone some) no_orphan bounds moves (gone_moves (site_after b.me Aborts site) left_behind))
        (rolls_gone act.Rollback reply.RolledBack comes)
      where
        left_behind : is_in b.me (without_xid b.me site.tables.opens) ≡ true → ⊥
        left_behind open_ = (once_less b.me site.tables.opens (once_parts (xids_in site.tables.opens) (xids_in site.tables.aborted) keeps.scene.shown.paged.sound.below.once).0).1 (in_among b.me (without_xid b.me site.tables.opens) open_)

-- ---- BEGIN, and what is refused outside a transaction

module _ (lines : List Line) (moment : ℕ) (base : Database) (stuck : List (List ℕ)) (size now : ℕ) (site : Site) (w : Mind)
    (keeps : Keeps lines (at_start moment base stuck) size now site w) (s n later : ℕ) (statement : Statement) (is_statement : statement_of lines s n ≡ Some statement)
    (none : transaction_of (final lines (at_start moment base stuck) w.tape).state s ≡ None) where
  abbrev outside : Point
  outside = final lines (at_start moment base stuck) w.tape

  abbrev began : Entry
  began = record { session = s; statement = n; act = act.Begin; reply = reply.Began outside.state.answered; moment = later }

  abbrev began_mind : Mind
  began_mind = record {
    run = held_as s (begun_now site w.run) w.run;
    since = put nat_cmp s outside.state.answered w.since;
    facts = with_facts s [] w.facts;
    undo = w.undo;
    tape = w.tape ++ began ∷ [];
  }

  pub begun_turn : Comes lines outside began → Keeps lines (at_start moment base stuck) size later site began_mind
  begun_turn comes = keeps_entry lines moment base stuck size now site w keeps began site began_mind comes refl
      (subst (λ (o : Option Transaction). KeepsScene size site began_mind (record { run = began_mind.run; state = next_from outside.state s o act.Begin (statement_of lines s n) (reply.Began outside.state.answered) })) (sym none)
      (silent_scene size site w (scene_of lines (at_start moment base stuck) w) keeps.scene s began_mind.since [] began_mind refl refl refl (record { run = began_mind.run; state = with_transaction s (begun outside.state.answered) outside.state }) (record {
        sessions = λ r two. find-put-other r s (begun_now site w.run) w.run.sessions two;
        transactions = λ r two. find-put-other r s (begun outside.state.answered) outside.state.sessions two;
        snapshots = λ r two. find-put-other r s outside.state.answered w.since two;
        since_is = find-put-same s outside.state.answered w.since ∙ ap (option_map (λ (t : Transaction). t.snapshot)) (sym (find-put-same s (begun outside.state.answered) outside.state.sessions));
        drawn = λ t b is_t at. subst (λ (a : SessionHeld). IsDrawnFor a t) (some_is (begun_now site w.run) b (sym (find-put-same s (begun_now site w.run) w.run.sessions) ∙ at))
            (subst (IsDrawnFor (begun_now site w.run)) (some_is (begun outside.state.answered) t (sym (find-put-same s (begun outside.state.answered) outside.state.sessions) ∙ is_t)) (record { writer = λ is. absurd (false≢true is); reader = λ is. refl }));
        held = λ b fact at in_. absurd in_;
        under = λ t fact is_t in_. absurd in_;
        tables = λ fact e in_ is. absurd in_;
        not_orphan = λ b at in_. no_zero (subst (λ (a : SessionHeld). IsAmong a.me w.undo.orphans) (some_is b (begun_now site w.run) (sym at ∙ find-put-same s (begun_now site w.run) w.run.sessions)) in_);
        seats = λ b at open_. absurd (false≢true (ap is_some (sym none ∙ (keeps.scene.shown.paged.modelled s b at).1)));
      })
      (shown_begun keeps.scene.low site (scene_of lines (at_start moment base stuck) w) keeps.scene.shown s none)))
      (rolls_moved lines outside began comes w.run began_mind.run keeps.rolls (λ r two. find-put-other r s (begun_now site w.run) w.run.sessions two)
      (λ b at undoing. absurd (false≢true (ap (λ (a : SessionHeld). a.undoing) (some_is (begun_now site w.run) b (sym (find-put-same s (begun_now site w.run) w.run.sessions) ∙ at)) ∙ undoing))))
    where
      zero_lt : 0 < 0 → ⊥
      zero_lt lt = omega (arith, lt)

      no_zero : IsAmong 0 w.undo.orphans → ⊥
      no_zero in_ = zero_lt (listed_drawn site.tables.next site.area site.tables keeps.scene.shown.paged.sound.below 0 (inl (keeps.scene.undo.0.are_open 0 in_))).0

  -- a session in no transaction is refused
  pub outside_turn : (a : Act) (why : Refusal) → Comes lines outside (record { session = s; statement = n; act = a; reply = reply.Refused why; moment = later })
      → Keeps lines (at_start moment base stuck) size later site (record w { tape = w.tape ++ record { session = s; statement = n; act = a; reply = reply.Refused why; moment = later } ∷ [] })
  outside_turn a why comes = keeps_entry lines moment base stuck size now site w keeps refused site v comes refl
      (subst (λ (o : Option Transaction). KeepsScene size site v (record { run = w.run; state = next_from outside.state s o a (statement_of lines s n) (reply.Refused why) })) (sym none) (record {
        low = keeps.scene.low;
        shown = keeps.scene.shown;
        begun = keeps.scene.begun;
        carried = keeps.scene.carried;
        undo = keeps.scene.undo;
      }))
      (rolls_moved lines outside refused comes w.run w.run keeps.rolls (λ r two. refl)
      (λ b at undoing. let inside = keeps.scene.shown.paged.modelled s b at in absurd (false≢true (ap is_some (sym none ∙ inside.1)))))
    where
      refused : Entry
      refused = record { session = s; statement = n; act = a; reply = reply.Refused why; moment = later }

      v : Mind
      v = record w { tape = w.tape ++ refused ∷ [] }
