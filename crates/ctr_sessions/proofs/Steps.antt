-- Each step of a session leads an engine with its sessions to the state that the reply leaves.
use Rattle.std.proofs.Common.{◌≡◌, ◌⊎◌, inl, inr, ⊎_elim, ℕ, ◌+◌, ◌==◌, Bool, true, false, cond, not, List, [], ◌∷◌, ◌++◌, length, Option, Some, None, refl, sym, ◌∙◌, ap, subst}
use Rattle.std.specs.Prelude.{is_some, ◌&&◌}
use Rattle.std.specs.Option.{option_map}
use Rattle.std.specs.List.{AllByRecursion}
use Rattle.std.specs.Ordering.{nat_cmp}
use Rattle.std.specs.FinMap.Entries.{find, put}
use Rattle.std.proofs.lemmas.Bool.{false≢true, true≢false, eqb-true, eq-eqb}
use Rattle.ctr_model.specs.declared.state.State.{State}
use Rattle.ctr_model.specs.declared.state.Transaction.{Transaction}
use Rattle.ctr_model.specs.Database.{name_cmp}
use Rattle.ctr_model.specs.Maps.{without}
use Rattle.ctr_model.specs.State.{same_name, transaction_of, with_transaction, without_transaction, begun}
use Rattle.ctr_model.proofs.Sessions.{known, find-put-other, find-put-same, find-without-other, find-without-same}
use Rattle.ctr_versions.specs.Chains.{Numbers, value_seen, Behind, AllCommitted}
use Rattle.ctr_versions.specs.Changes.{write}
use Rattle.ctr_versions.specs.Xids.{Xids, number_of, taken, aborted}
use Rattle.ctr_versions.specs.Listing.{chain_at}
use Rattle.ctr_versions.specs.Versions.{Made, Versions, names_at, NamesSet, IsUnmadeTable, HaveOwnTables}
use Rattle.ctr_versions.specs.Engine.{SessionHeld, EngineHeld, ShowsState}
use Rattle.ctr_versions.specs.Steps.{engine_begun, engine_drawn, engine_asked}
use Rattle.ctr_versions.specs.Laws.{with_own}
use Rattle.ctr_sessions.specs.Sessions.{Begun, IsDrawnFor, ShowsBegun}
use Rattle.ctr_sessions.specs.Steps.{BeginShows, LockLeaves, LockShows, ReadShows, RowShows, NameShows, AskShows, AnswerShows, EndShows, RollbackShows, RoomShows}
use Rattle.ctr_versions.proofs.Keys.{same_text, some_is}
use Rattle.ctr_versions.proofs.Chains.{seen_alike}
use Rattle.ctr_versions.proofs.Versions.{behind_schemas}
use Rattle.ctr_versions.proofs.Reading.{session_moved, grants_shown}
use Rattle.ctr_versions.proofs.Steps.{begin_step, draw_step, ask_step, rollback_step, answer_step, end_step}
use Rattle.ctr_legal.proofs.Keep.{denied}

-- ---- sessions with a number each: put, the same, gone

abbrev since_of : Option Transaction → Option ℕ
since_of o = option_map (λ (t : Transaction). t.snapshot) o

abbrev AreSince : List (ℕ × ℕ) → List (ℕ × Transaction) → Type 0
AreSince since transactions = (s : ℕ) → find nat_cmp s since ≡ since_of (find nat_cmp s transactions)

module _ (since : List (ℕ × ℕ)) (transactions : List (ℕ × Transaction)) (s : ℕ) (are : AreSince since transactions) where
  since_put : (t : Transaction) → AreSince (put nat_cmp s t.snapshot since) (put nat_cmp s t transactions)
  since_put t q = known (q == s)
      (λ one. subst (λ r. find nat_cmp r (put nat_cmp s t.snapshot since) ≡ since_of (find nat_cmp r (put nat_cmp s t transactions))) (sym (eqb-true q s one)) (find-put-same s t.snapshot since ∙ sym (ap since_of (find-put-same s t transactions))))
      (λ two. find-put-other q s t.snapshot since two ∙ are q ∙ ap since_of (sym (find-put-other q s t transactions two)))

  -- its snapshot is the one of before
  since_same : (me t : Transaction) → find nat_cmp s transactions ≡ Some me → t.snapshot ≡ me.snapshot → AreSince since (put nat_cmp s t transactions)
  since_same me t at same q = known (q == s)
      (λ one. subst (λ r. find nat_cmp r since ≡ since_of (find nat_cmp r (put nat_cmp s t transactions))) (sym (eqb-true q s one)) (are s ∙ ap since_of at ∙ ap (λ n. Some n) (sym same) ∙ sym (ap since_of (find-put-same s t transactions))))
      (λ two. are q ∙ ap since_of (sym (find-put-other q s t transactions two)))

  since_without : AreSince (without nat_cmp s since) (without nat_cmp s transactions)
  since_without q = known (q == s)
      (λ one. subst (λ r. find nat_cmp r (without nat_cmp s since) ≡ since_of (find nat_cmp r (without nat_cmp s transactions))) (sym (eqb-true q s one)) (find-without-same s since ∙ sym (ap since_of (find-without-same s transactions))))
      (λ two. find-without-other q s since two ∙ are q ∙ ap since_of (sym (find-without-other q s transactions two)))

abbrev AreDrawnFor : List (ℕ × Transaction) → List (ℕ × SessionHeld) → Type 0
AreDrawnFor transactions sessions = (s : ℕ) (t : Transaction) (session : SessionHeld) → find nat_cmp s transactions ≡ Some t → find nat_cmp s sessions ≡ Some session → IsDrawnFor session t

module _ (transactions : List (ℕ × Transaction)) (sessions : List (ℕ × SessionHeld)) (s : ℕ) (are : AreDrawnFor transactions sessions) where
  got : {X : Type 0} (x y : X) (es : List (ℕ × X)) (q : ℕ) → (q == s) ≡ true → find nat_cmp q (put nat_cmp s x es) ≡ Some y → x ≡ y
  got x y es q one at = some_is x y (sym (ap (λ r. find nat_cmp r (put nat_cmp s x es)) (eqb-true q s one) ∙ find-put-same s x es) ∙ at)

  drawn_put : (t : Transaction) (session : SessionHeld) → IsDrawnFor session t → AreDrawnFor (put nat_cmp s t transactions) (put nat_cmp s session sessions)
  drawn_put t session mine q u b at at_b = known (q == s)
      (λ one. subst (λ c. IsDrawnFor c u) (got session b sessions q one at_b) (subst (IsDrawnFor session) (got t u transactions q one at) mine))
      (λ two. are q u b (sym (find-put-other q s t transactions two) ∙ at) (sym (find-put-other q s session sessions two) ∙ at_b))

  drawn_same : (t : Transaction) (session : SessionHeld) → find nat_cmp s sessions ≡ Some session → IsDrawnFor session t → AreDrawnFor (put nat_cmp s t transactions) sessions
  drawn_same t session at_s mine q u b at at_b = known (q == s)
      (λ one. subst (λ c. IsDrawnFor c u) (some_is session b (sym (ap (λ r. find nat_cmp r sessions) (eqb-true q s one) ∙ at_s) ∙ at_b)) (subst (IsDrawnFor session) (got t u transactions q one at) mine))
      (λ two. are q u b (sym (find-put-other q s t transactions two) ∙ at) at_b)

  -- the transaction draws none and has the old one's writer
  drawn_writer : (me t : Transaction) → find nat_cmp s transactions ≡ Some me → t.writer ≡ me.writer → AreDrawnFor (put nat_cmp s t transactions) sessions
  drawn_writer me t at same q u b at_q at_b = known (q == s)
      (λ one.
      let mine = are s me b at (ap (λ r. find nat_cmp r sessions) (sym (eqb-true q s one)) ∙ at_b) in
      let theirs : u.writer ≡ me.writer = ap (λ (w : Transaction). w.writer) (sym (got t u transactions q one at_q)) ∙ same in
      record { writer = λ is. mine.writer (sym theirs ∙ is); reader = λ is. mine.reader (sym theirs ∙ is) })
      (λ two. are q u b (sym (find-put-other q s t transactions two) ∙ at_q) at_b)

  drawn_without : AreDrawnFor (without nat_cmp s transactions) (without nat_cmp s sessions)
  drawn_without q u b at at_b = known (q == s)
      (λ one. absurd (false≢true (ap is_some (sym (ap (λ r. find nat_cmp r (without nat_cmp s transactions)) (eqb-true q s one) ∙ find-without-same s transactions) ∙ at))))
      (λ two. are q u b (sym (find-without-other q s transactions two) ∙ at) (sym (find-without-other q s sessions two) ∙ at_b))

-- each session has a transaction
abbrev AreOnly : List (ℕ × Transaction) → List (ℕ × SessionHeld) → Type 0
AreOnly transactions sessions = (s : ℕ) (session : SessionHeld) → find nat_cmp s sessions ≡ Some session → is_some (find nat_cmp s transactions) ≡ true

module _ (transactions : List (ℕ × Transaction)) (sessions : List (ℕ × SessionHeld)) (s : ℕ) (are : AreOnly transactions sessions) where
  only_same : (t : Transaction) → AreOnly (put nat_cmp s t transactions) sessions
  only_same t q b at = known (q == s)
      (λ one. ap (λ r. is_some (find nat_cmp r (put nat_cmp s t transactions))) (eqb-true q s one) ∙ ap is_some (find-put-same s t transactions))
      (λ two. ap is_some (find-put-other q s t transactions two) ∙ are q b at)

  only_put : (t : Transaction) (session : SessionHeld) → AreOnly (put nat_cmp s t transactions) (put nat_cmp s session sessions)
  only_put t session q b at = known (q == s)
      (λ one. ap (λ r. is_some (find nat_cmp r (put nat_cmp s t transactions))) (eqb-true q s one) ∙ ap is_some (find-put-same s t transactions))
      (λ two. ap is_some (find-put-other q s t transactions two) ∙ are q b (sym (find-put-other q s session sessions two) ∙ at))

  only_without : AreOnly (without nat_cmp s transactions) (without nat_cmp s sessions)
  only_without q b at = known (q == s)
      (λ one. absurd (false≢true (ap is_some (sym (ap (λ r. find nat_cmp r (without nat_cmp s sessions)) (eqb-true q s one) ∙ find-without-same s sessions) ∙ at))))
      (λ two. ap is_some (find-without-other q s transactions two) ∙ are q b (sym (find-without-other q s sessions two) ∙ at))

-- ---- begin, lock, read

-- the engine and the numbers are known by equations
with_parts : (low : ℕ) (new : Begun) (state : State) (engine : EngineHeld) (since : List (ℕ × ℕ)) → new.engine ≡ engine → new.since ≡ since → ShowsBegun low (record { engine = engine; since = since }) state → ShowsBegun low new state
with_parts low new state engine since is_engine is_since shows = subst (λ (db : Begun). ShowsBegun low db state) (λ i. record { engine = sym is_engine i; since = sym is_since i }) shows

pub begin_shows : BeginShows
begin_shows low old new state s is_old is_engine is_since =
    with_parts low new (with_transaction s (begun state.answered) state) (engine_begun s old.engine) (put nat_cmp s state.answered old.since) is_engine (is_since ∙ ap (λ n. put nat_cmp s n old.since) is_old.shows.same_answered) (record {
      shows = begin_step low old.engine state s is_old.shows;
      since = since_put old.since state.sessions s is_old.since (begun state.answered);
      drawn = drawn_put state.sessions old.engine.sessions s is_old.drawn (begun state.answered) (record { me = 0; snapshot = taken old.engine.xids old.engine.answered; undoing = false }) (record { writer = λ is. absurd (false≢true is); reader = λ is. refl });
      only = only_put state.sessions old.engine.sessions s is_old.only (begun state.answered) (record { me = 0; snapshot = taken old.engine.xids old.engine.answered; undoing = false });
      tables = is_old.tables;
      ordered = is_old.ordered;
    })

pub lock_shows : LockShows
lock_shows low old new state s me t session is_old here grant writer unwritten leaves is_since =
    let mine = is_old.drawn s me session here.there here.held in
    elim (me.writer) as (λ b. me.writer ≡ b → LockLeaves b s session old.engine new.engine → ShowsBegun low new (with_transaction s t state)) [
      | true ↦ λ was. λ left. with_parts low new (with_transaction s t state) old.engine old.since left is_since (record {
        shows = grants_shown low old.engine state s me t is_old.shows here.there grant;
        since = since_same old.since state.sessions s is_old.since me t here.there grant.snapshot;
        drawn = drawn_same state.sessions old.engine.sessions s is_old.drawn t session here.held (record { writer = λ is. mine.writer was; reader = λ is. absurd (true≢false (sym writer ∙ is)) });
        only = only_same state.sessions old.engine.sessions s is_old.only t;
        tables = is_old.tables;
        ordered = is_old.ordered;
      })
      | false ↦ λ was. λ left. with_parts low new (with_transaction s t state) (engine_drawn s session old.engine) old.since left is_since (record {
        shows = draw_step low old.engine state s session t is_old.shows (session_moved low state.answered old.engine.xids old.engine.versions session me t grant.snapshot grant.own grant.asked here.shown) (grant.asked ∙ here.unasked) (grant.own ∙ unwritten was);
        since = since_same old.since state.sessions s is_old.since me t here.there grant.snapshot;
        drawn = drawn_put state.sessions old.engine.sessions s is_old.drawn t (record session { me = old.engine.xids.next }) (record { writer = λ is. is_old.shows.sound.first; reader = λ is. absurd (true≢false (sym writer ∙ is)) });
        only = only_put state.sessions old.engine.sessions s is_old.only t (record session { me = old.engine.xids.next });
        tables = is_old.tables;
        ordered = is_old.ordered;
      })
    ] refl leaves

pub read_shows : ReadShows
read_shows low db state s me t session is_old here grant writer = record {
  shows = grants_shown low db.engine state s me t is_old.shows here.there grant;
  since = since_same db.since state.sessions s is_old.since me t here.there grant.snapshot;
  drawn = drawn_writer state.sessions db.engine.sessions s is_old.drawn me t here.there writer;
  only = only_same state.sessions db.engine.sessions s is_old.only t;
  tables = is_old.tables;
  ordered = is_old.ordered;
}

-- ---- writes

-- each name has its chain
same_tables : (old new : Versions) → ((name : List ℕ) → names_at new name ≡ names_at old name) → HaveOwnTables old → HaveOwnTables new
same_tables old new same own a b m n test other at_a at_b one = own a b m n test other (ap (value_seen test) (sym (same a)) ∙ at_a) (ap (value_seen other) (sym (same b)) ∙ at_b) one

-- the session's transaction has a change more, and the sessions and their numbers are as they were
module _ (low : ℕ) (old new : Begun) (state : State) (s : ℕ) (me t : Transaction) (is_old : ShowsBegun low old state) (at : transaction_of state s ≡ Some me)
    (snapshot : t.snapshot ≡ me.snapshot) (writer : t.writer ≡ me.writer) (sessions : new.engine.sessions ≡ old.engine.sessions) (is_since : new.since ≡ old.since) where
  written : HaveOwnTables new.engine.versions → ShowsState low new.engine (with_transaction s t state) → ShowsBegun low new (with_transaction s t state)
  written tables shows = record {
    shows = shows;
    since = subst (λ es. AreSince es (put nat_cmp s t state.sessions)) (sym is_since) (since_same old.since state.sessions s is_old.since me t at snapshot);
    drawn = subst (λ es. AreDrawnFor (put nat_cmp s t state.sessions) es) (sym sessions) (drawn_writer state.sessions old.engine.sessions s is_old.drawn me t at writer);
    only = subst (λ es. AreOnly (put nat_cmp s t state.sessions) es) (sym sessions) (only_same state.sessions old.engine.sessions s is_old.only t);
    tables = tables;
    ordered = is_old.ordered;
  }

pub row_shows : RowShows
row_shows low old new state s me c id key chain is_old at set is_since shows =
    written low old new state s me (with_own c me) is_old at refl refl (ap (λ (e : EngineHeld). e.sessions) set.rest) is_since
    (same_tables old.engine.versions new.engine.versions (λ name. ap (chain_at name_cmp name) set.set.names) is_old.tables) shows

-- ---- what is seen after a write of a name is what was written, or was seen by some test before

by_head : (b : Bool) (v rest : Option Made) (m : Made) {A : Type 0} → cond b v rest ≡ Some m → (v ≡ Some m → A) → (rest ≡ Some m → A) → A
by_head true v rest m is first later = first is
by_head false v rest m is first later = later is

not_itself : (a b : Bool) → b ≡ true → (a && not b) ≡ false
not_itself true b is = ap not is
not_itself false b is = refl

and_other : (a b : Bool) → b ≡ false → (a && not b) ≡ a
and_other true b is = ap not is
and_other false b is = refl

-- what is seen behind a head that isn't committed is seen past it
seen_rest : (number : Numbers) (h : ℕ × Option Made) (rest : List (ℕ × Option Made)) (test : ℕ → Bool) (m : Made) → is_some (number h.0) ≡ false → AllCommitted number rest → value_seen test rest ≡ Some m → (own : ℕ → Bool) × (value_seen own (h ∷ rest) ≡ Some m)
seen_rest number h rest test m open_ behind e = (
  λ y. test y && not (y == h.0),
  ap (λ b. cond b h.1 (value_seen (λ y. test y && not (y == h.0)) rest)) (not_itself (test h.0) (h.0 == h.0) (eq-eqb h.0 h.0 refl)) ∙ seen_alike test (λ y. test y && not (y == h.0)) rest (apart rest behind) ∙ e,
)
  where
    apart : (vs : List (ℕ × Option Made)) → AllCommitted number vs → AllByRecursion (λ (w : ℕ × Option Made). (test w.0 && not (w.0 == h.0)) ≡ test w.0) vs
    apart [] all = tt
    apart (w ∷ ws) all = (
      and_other (test w.0) (w.0 == h.0) (denied (w.0 == h.0) (λ same. false≢true (sym open_ ∙ ap (λ y. is_some (number y)) (sym (eqb-true w.0 h.0 same)) ∙ all.0))),
      apart ws all.1,
    )

abbrev Was : List (ℕ × Option Made) → Option Made → Made → Type 0
Was chain v m = (v ≡ Some m) ⊎ ((test : ℕ → Bool) × (value_seen test chain ≡ Some m))

seen_write : (number : Numbers) (x : ℕ) (v : Option Made) (chain : List (ℕ × Option Made)) (test : ℕ → Bool) (m : Made) → Behind number chain → value_seen test (write number x v chain) ≡ Some m → Was chain v m
seen_write number x v [] test m behind is = by_head (test x) v None m is (λ e. inl e) (λ e. absurd (false≢true (ap is_some e)))
seen_write number x v (h ∷ rest) test m behind is = known (is_some (number h.0))
    (λ committed. by_head (test x) v (value_seen test (h ∷ rest)) m (sym (ap (λ b. value_seen test (cond b ((x, v) ∷ h ∷ rest) ((x, v) ∷ rest))) committed) ∙ is) (λ e. inl e) (λ e. inr (test, e)))
    (λ open_. by_head (test x) v (value_seen test rest) m (sym (ap (λ b. value_seen test (cond b ((x, v) ∷ h ∷ rest) ((x, v) ∷ rest))) open_) ∙ is) (λ e. inl e) (λ e. inr (seen_rest number h rest test m open_ behind e)))

module _ (number : Numbers) (old new : Versions) (name : List ℕ) (x : ℕ) (v : Option Made) (set : NamesSet old new name (write number x v (names_at old name))) (behind : Behind number (names_at old name)) where
  was : (other : List ℕ) (test : ℕ → Bool) (m : Made) → value_seen test (names_at new other) ≡ Some m → ((name ≡ other) × (v ≡ Some m)) ⊎ ((test : ℕ → Bool) × (value_seen test (names_at old other) ≡ Some m))
  was other test m is = known (same_name name other)
      (λ one. let same = same_text name other one in
      ⊎_elim (λ e. inl (same, e)) (λ e. inr (e.0, ap (λ n. value_seen e.0 (names_at old n)) (sym same) ∙ e.1))
      (seen_write number x v (names_at old name) test m behind (sym (ap (value_seen test) set.here) ∙ ap (λ n. value_seen test (names_at new n)) same ∙ is)))
      (λ two. inr (test, sym (ap (value_seen test) (set.others other two)) ∙ is))

  names_own : ((m : Made) → v ≡ Some m → IsUnmadeTable m.id old) → HaveOwnTables old → HaveOwnTables new
  names_own fresh theirs a b made mine test own at_a at_b same = ⊎_elim
      (λ one. ⊎_elim
      (λ two. sym one.0 ∙ two.0)
      (λ before. absurd ((fresh made one.1).names b mine before.0 before.1 (sym same)))
      (was b own mine at_b))
      (λ before. ⊎_elim
      (λ two. absurd ((fresh mine two.1).names a made before.0 before.1 same))
      (λ earlier. theirs a b made mine before.0 earlier.0 before.1 earlier.1 same)
      (was b own mine at_b))
      (was a test made at_a)

pub name_shows : NameShows
name_shows low old new state s me c name x v is_old at set fresh is_since shows =
    let number = number_of old.engine.xids in
    written low old new state s me (with_own c me) is_old at refl refl (ap (λ (e : EngineHeld). e.sessions) set.rest) is_since
    (names_own number old.engine.versions new.engine.versions name x v set.set (behind_schemas number (names_at old.engine.versions name) (is_old.shows.stands.tables name).behind) fresh is_old.tables) shows

-- ---- the end

pub ask_shows : AskShows
ask_shows low old new state s me session is_old here writer untouched is_engine is_since =
    let mine = is_old.drawn s me session here.there here.held in
    let t : Transaction = record me { asked = Some (length state.asked + 1) } in
    let next : State = with_transaction s t (record state { asked = state.asked ++ me.own ∷ [] }) in
    with_parts low new next (engine_asked session.me old.engine) old.since is_engine is_since (record {
      shows = ask_step low old.engine state s session me is_old.shows here.held here.shown here.unasked (mine.writer writer) here.calm untouched;
      since = since_same old.since state.sessions s is_old.since me t here.there refl;
      drawn = drawn_writer state.sessions old.engine.sessions s is_old.drawn me t here.there refl;
      only = only_same state.sessions old.engine.sessions s is_old.only t;
      tables = is_old.tables;
      ordered = is_old.ordered;
    })

-- the engine without a session, with other transactions and another count of answers
abbrev engine_without : ℕ → Xids → ℕ → EngineHeld → EngineHeld
engine_without s xids answered engine = record engine {
  xids = xids;
  sessions = without nat_cmp s engine.sessions;
  answered = answered;
}

-- the state without a session's transaction, with another count of answers
abbrev state_without : ℕ → ℕ → State → State
state_without s answered state = without_transaction s (record state { answered = answered })

-- a session's transaction has ended, in the engine and in the state
session_gone : (low : ℕ) (old new : Begun) (state : State) (s : ℕ) (xids : Xids) (held told : ℕ) → ShowsBegun low old state → new.engine ≡ engine_without s xids held old.engine → new.since ≡ without nat_cmp s old.since
    → ShowsState low (engine_without s xids held old.engine) (state_without s told state) → ShowsBegun low new (state_without s told state)
session_gone low old new state s xids held told is_old is_engine is_since shows =
    with_parts low new (state_without s told state) (engine_without s xids held old.engine) (without nat_cmp s old.since) is_engine is_since (record {
      shows = shows;
      since = since_without old.since state.sessions s is_old.since;
      drawn = drawn_without state.sessions old.engine.sessions s is_old.drawn;
      only = only_without state.sessions old.engine.sessions s is_old.only;
      tables = is_old.tables;
      ordered = is_old.ordered;
    })

pub answer_shows : AnswerShows
answer_shows low old new state s is_old waiting is_engine is_since =
    session_gone low old new state s old.engine.xids (old.engine.answered + 1) (state.answered + 1) is_old is_engine is_since (answer_step low old.engine state s is_old.shows waiting)

pub end_shows : EndShows
end_shows low old new state s is_old is_engine is_since =
    session_gone low old new state s old.engine.xids old.engine.answered state.answered is_old is_engine is_since (end_step low old.engine state s is_old.shows)

pub rollback_shows : RollbackShows
rollback_shows low old new state s me session is_old here writer is_engine is_since =
    let mine = is_old.drawn s me session here.there here.held in
    session_gone low old new state s (aborted session.me old.engine.xids) old.engine.answered state.answered is_old is_engine is_since
    (rollback_step low old.engine state s session me is_old.shows here.held here.shown here.unasked (mine.writer writer))

pub room_shows : RoomShows
room_shows low old new state is_old sessions same_since same shows = record {
  shows = shows;
  since = λ s. same_since s ∙ is_old.since s;
  drawn = subst (λ es. AreDrawnFor state.sessions es) (sym sessions) is_old.drawn;
  only = subst (λ es. AreOnly state.sessions es) (sym sessions) is_old.only;
  tables = same_tables old.engine.versions new.engine.versions same is_old.tables;
  ordered = is_old.ordered;
}
